-- The canonical spelling of a block.
use Rattle.std.specs.Prelude.{ℕ, cond, List, [], ◌∷◌, ◌++◌}
use Rattle.std.specs.List.{flat_map}
use Rattle.block_tree.specs.Tree.{Items, Tree, end, text, block}
use Rattle.meta_format.specs.Spelling.{is_special, with_body}

-- 27 stands before each 2, 5 and 27 of a text, and nowhere else.
abbrev pub escape : ℕ → List ℕ
escape c = cond (is_special c) (27 ∷ c ∷ []) (c ∷ [])

abbrev pub canonical_items : Items → List ℕ
canonical_items end = []
canonical_items (text t rest) = flat_map escape t ++ canonical_items rest
canonical_items (block channel name inside rest) = with_body channel name (canonical_items inside) ++ canonical_items rest

abbrev pub canonical : Tree → List ℕ
canonical b = with_body b.channel b.name (canonical_items b.items)
