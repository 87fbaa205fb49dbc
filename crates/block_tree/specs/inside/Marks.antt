-- A block as the row of its marks, from left to right: the opening of each block in it, each byte of text, each closing.
use Rattle.std.specs.Prelude.{ℕ, Bool, false, List, [], ◌∷◌, ◌++◌, map}
use Rattle.block_tree.specs.Tree.{Items, Tree, end, text, block}
use Rattle.block_tree.specs.inside.Code.{with_block}

pub data Mark : Type 0 where
  open_mark : Bool → List ℕ → Mark
  letter : ℕ → Mark
  close_mark : Mark

abbrev pub marks_of : Items → List Mark
marks_of end = []
marks_of (text t rest) = map letter t ++ marks_of rest
marks_of (block channel name inside rest) = open_mark channel name ∷ (marks_of inside ++ close_mark ∷ marks_of rest)

abbrev pub marks : Tree → List Mark
marks b = open_mark b.channel b.name ∷ (marks_of b.items ++ close_mark ∷ [])

-- The tree that has these marks, read from the right: the items of each level that is closed after them.
abbrev pub letter_before : ℕ → List Items → List Items
letter_before c [] = []
letter_before c (end ∷ st) = text (c ∷ []) end ∷ st
letter_before c (text t f ∷ st) = text (c ∷ t) f ∷ st
letter_before c (block d n i f ∷ st) = text (c ∷ []) (block d n i f) ∷ st

abbrev pub rebuilt : List Mark → List Items
rebuilt [] = end ∷ []
rebuilt (open_mark c n ∷ ms) = with_block c n (rebuilt ms)
rebuilt (letter c ∷ ms) = letter_before c (rebuilt ms)
rebuilt (close_mark ∷ ms) = end ∷ rebuilt ms

abbrev pub first_tree : List Items → Tree
first_tree [] = record { channel = false; name = []; items = end }
first_tree (end ∷ st) = record { channel = false; name = []; items = end }
first_tree (text t f ∷ st) = record { channel = false; name = []; items = end }
first_tree (block c n i f ∷ st) = record { channel = c; name = n; items = i }

abbrev pub tree_from : List Mark → Tree
tree_from ms = first_tree (rebuilt ms)
