-- Outputs as a report of a check shows them: as a worksheet does, but each picture by its size and a sum. (docs/use/CHECK.md, "Pictures".)
use Rattle.std.specs.Prelude.{ℕ, ◌/◌, ◌%◌, Bool, List, [], ◌∷◌, ◌++◌, Option, Some, None, length, take, codes}
use Rattle.std.specs.Fmt.{decimal}
use Rattle.std.specs.List.{flat_map}
use Rattle.sha2.specs.Sha256.{sha256}
use Rattle.block_tree.specs.declared.reason.Reason.{Reason}
use Rattle.block_tree.specs.Tree.{Items, Tree, Piece, end, text, block, text_piece, block_piece}
use Rattle.worksheet.specs.declared.field.Answer.{Answer}
use Rattle.sheet_text.specs.Escape.{hex, on_lines}
use Rattle.sheet_text.specs.Blocks.{framed, shown}
use Rattle.sheet_text.specs.Texts.{in_lines, no_answer_line}
use Rattle.sheet_notebook.specs.Pictures.{picture_named, picture_of}

-- a byte as two hexadecimal digits
abbrev pub two_digits : ℕ → List ℕ
two_digits byte = hex (byte / 16) ∷ hex (byte % 16) ∷ []

-- The sum of a text: the first four bytes of its SHA-256 (FIPS 180-4), as eight hexadecimal digits.
abbrev pub sum_digits : List ℕ → List ℕ
sum_digits t = flat_map two_digits (take 4 (sha256 t))

-- how many bytes
abbrev pub size_part : ℕ → List ℕ
size_part n = codes " " ++ decimal n ++ codes " bytes"

-- What stands in the place of a picture's text: how many bytes this text has, and its sum; both are of the text itself, be it base64 or not.
abbrev pub size_and_sum : List ℕ → List ℕ
size_and_sum t = size_part (length t) ++ (codes ", sum " ++ sum_digits t)

-- A block, by the text of the picture if it is one: a picture with its tag, its size and its sum; any other block as a worksheet shows it,
-- with this in it.
abbrev pub brief_block : Option (List ℕ) → Bool → List ℕ → List ℕ → List ℕ
brief_block None channel name inside = shown channel name inside
brief_block (Some t) channel name inside = framed channel name (size_and_sum t)

-- Items one after another. A picture is a block with one text, whose format begins with `image/` (`Pictures` of sheet_notebook).
abbrev pub items_brief : Items → List ℕ
items_brief end = []
items_brief (text t rest) = on_lines t ++ items_brief rest
items_brief (block channel name inside rest) = brief_block (picture_named channel name inside) channel name (items_brief inside) ++ items_brief rest

-- an output
abbrev pub brief_text : Tree → List ℕ
brief_text b = brief_block (picture_of b) b.channel b.name (items_brief b.items)

abbrev pub piece_brief : Piece → List ℕ
piece_brief (text_piece t) = on_lines t
piece_brief (block_piece b) = brief_text b

-- the output in whole lines; where there is none `?`, and the reason for that if there is one, as `print` has them
abbrev pub brief_lines : Option Answer → Option Reason → List ℕ
brief_lines None lost = no_answer_line lost
brief_lines (Some answer) lost = in_lines (brief_text answer.output)
