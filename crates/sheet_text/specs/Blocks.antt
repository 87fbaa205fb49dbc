-- A block as it is printed: with all its tags on one line, or as a worksheet shows it.
use Rattle.std.specs.Prelude.{ℕ, Bool, true, false, List, [], ◌∷◌, ◌++◌, cond, codes}
use Rattle.std.specs.Str.{bytes_eq}
use Rattle.block_tree.specs.Tree.{Items, Tree, Piece, end, text, block, text_piece, block_piece}
use Rattle.sheet_text.specs.Escape.{on_line, on_lines}

-- ':' after a format, '#' after a channel
abbrev pub sign : Bool → ℕ
sign false = 58
sign true = 35

-- '{', the tag, what stands in it, '}'
abbrev pub framed : Bool → List ℕ → List ℕ → List ℕ
framed channel name inside = 123 ∷ (on_line name ++ sign channel ∷ (inside ++ 125 ∷ []))

-- items on one line
abbrev pub items_tree_text : Items → List ℕ
items_tree_text end = []
items_tree_text (text t rest) = on_line t ++ items_tree_text rest
items_tree_text (block channel name inside rest) = framed channel name (items_tree_text inside) ++ items_tree_text rest

-- a block with all its tags, on one line
abbrev pub tree_text : Tree → List ℕ
tree_text b = framed b.channel b.name (items_tree_text b.items)

abbrev pub piece_tree_text : Piece → List ℕ
piece_tree_text (text_piece t) = on_line t
piece_tree_text (block_piece b) = tree_text b

-- the format 'verbatim' and the channel 'output' show no tag
abbrev pub is_bare : Bool → List ℕ → Bool
is_bare false name = bytes_eq name (codes "verbatim")
is_bare true name = bytes_eq name (codes "output")

abbrev pub shown : Bool → List ℕ → List ℕ → List ℕ
shown channel name inside = cond (is_bare channel name) inside (framed channel name inside)

-- items as a worksheet shows them
abbrev pub items_block_text : Items → List ℕ
items_block_text end = []
items_block_text (text t rest) = on_lines t ++ items_block_text rest
items_block_text (block channel name inside rest) = shown channel name (items_block_text inside) ++ items_block_text rest

-- a block as a worksheet shows it
abbrev pub block_text : Tree → List ℕ
block_text b = shown b.channel b.name (items_block_text b.items)

abbrev pub piece_block_text : Piece → List ℕ
piece_block_text (text_piece t) = on_lines t
piece_block_text (block_piece b) = block_text b
