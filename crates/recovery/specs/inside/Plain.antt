-- A block of one text alone. No public clause speaks of it.
use Rattle.std.specs.Prelude.{ℕ, false, List, [], ◌∷◌}
use Rattle.block_tree.specs.Tree.{Items, Tree, end, text}

-- what stands in it: nothing, where the text is empty
abbrev pub plain_items : List ℕ → Items
plain_items [] = end
plain_items (c ∷ t) = text (c ∷ t) end

abbrev pub plain_block : List ℕ → List ℕ → Tree
plain_block name t = record { channel = false; name = name; items = plain_items t }
