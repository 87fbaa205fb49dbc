-- The parts of an output: what an interpreter printed, showed and answered, each by itself.
use Rattle.std.specs.Prelude.{Bool, true, List, [], ◌∷◌, ◌&&◌, cond, flat_map, map, not}
use Rattle.block_tree.specs.Tree.{Items, Piece, Tree, block, block_piece, end, text, text_piece}
use Rattle.sheet_notebook.specs.Pictures.{is_output_tag}

-- whether it stands in the channel of answers, and one of the things that stand in an output
abbrev pub Part : Type 0
Part = Bool × Piece

-- the things that stand in a block, in their order
abbrev pub pieces : Items → List Piece
pieces end = []
pieces (text t rest) = text_piece t ∷ pieces rest
pieces (block channel name inside rest) = block_piece (record { channel = channel; name = name; items = inside }) ∷ pieces rest

-- each of them as a part
abbrev pub parts_in : Bool → List Piece → List Part
parts_in in_output ps = map (λ p. (in_output, p)) ps

-- whether a block opens the channel of answers, in an output of another kind
abbrev pub opens_answer : Bool → Tree → Bool
opens_answer in_output b = not in_output && is_output_tag b.channel b.name

-- one of them as parts: in place of a block that opens the channel of answers, what stands in it
abbrev pub parts_at : Bool → Piece → List Part
parts_at in_output (text_piece t) = (in_output, text_piece t) ∷ []
parts_at in_output (block_piece b) = cond (opens_answer in_output b) (parts_in true (pieces b.items)) ((in_output, block_piece b) ∷ [])

-- the parts of an output
abbrev pub output_parts : Tree → List Part
output_parts b = flat_map (parts_at (is_output_tag b.channel b.name)) (pieces b.items)
