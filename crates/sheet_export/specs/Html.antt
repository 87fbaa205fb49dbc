-- The page of a worksheet: fixed parts, with texts between them.
use Rattle.std.specs.Prelude.{ℕ, ◌&&◌, not, Bool, true, false, List, [], ◌∷◌, ◌++◌, Option, Some, None, codes, cond}
use Rattle.std.specs.Fmt.{decimal}
use Rattle.std.specs.List.{flat_map}
use Rattle.std.specs.Str.{bytes_eq}
use Rattle.block_tree.specs.Tree.{Items, Tree, Piece, end, text, block, text_piece, block_piece}
use Rattle.block_tree.specs.declared.reason.Reason.{Reason}
use Rattle.worksheet.specs.Contents.{Contents}
use Rattle.worksheet.specs.declared.field.Answer.{Answer}
use Rattle.worksheet.specs.declared.field.Field.{Field}
use Rattle.sheet_text.specs.Blocks.{sign, is_bare}
use Rattle.sheet_text.specs.InputLines.{lines_of_input, text_of_lines}
use Rattle.sheet_text.specs.Replies.{reason_name}
use Rattle.sheet_text.specs.Texts.{prompt_shown}
use Rattle.sheet_notebook.specs.Empty.{shows_nothing}
use Rattle.sheet_notebook.specs.Pictures.{is_error_tag, is_output_tag, picture_named, picture_of}
use Rattle.sheet_export.specs.Pictures.{picture_html}
use Rattle.sheet_export.specs.References.{html_text}
use Rattle.sheet_export.specs.Parts as part

-- whether a block is of the format `latex`
abbrev pub is_tex : Bool → List ℕ → Bool
is_tex channel name = not channel && bytes_eq name (codes "latex")

-- what stands in front of what a block holds: the beginning of a span, or '{' and the tag
abbrev pub block_start : Bool → Bool → List ℕ → List ℕ
block_start in_output channel name = cond (is_error_tag in_output channel name) part.error_start (cond (is_tex channel name) part.tex_start (123 ∷ (html_text false name ++ sign channel ∷ [])))

-- and after it: the end of the span, or '}'
abbrev pub block_end : Bool → Bool → List ℕ → List ℕ
block_end in_output channel name = cond (is_error_tag in_output channel name) part.error_end (cond (is_tex channel name) part.tex_end (125 ∷ []))

abbrev pub framed_html : Bool → Bool → List ℕ → List ℕ → List ℕ
framed_html in_output channel name inside = block_start in_output channel name ++ (inside ++ block_end in_output channel name)

-- a block whose tag isn't shown, and that is no error
abbrev pub is_unmarked : Bool → Bool → List ℕ → Bool
is_unmarked in_output channel name = is_bare channel name && not (is_error_tag in_output channel name)

-- a block that holds this
abbrev pub marked_html : Bool → Bool → List ℕ → List ℕ → List ℕ
marked_html in_output channel name inside = cond (is_unmarked in_output channel name) inside (framed_html in_output channel name inside)

-- a picture with this text, or a block that holds this
abbrev pub shown_html : Option (List ℕ) → Bool → Bool → List ℕ → List ℕ → List ℕ
shown_html (Some given) in_output channel name inside = picture_html name given
shown_html None in_output channel name inside = marked_html in_output channel name inside

-- items as a worksheet shows them, with errors and pictures; they stand in a block of the channel `output` or not
abbrev pub items_html : Bool → Items → List ℕ
items_html in_output end = []
items_html in_output (text t rest) = html_text true t ++ items_html in_output rest
items_html in_output (block channel name inside rest) =
    shown_html (picture_named channel name inside) in_output channel name (items_html (is_output_tag channel name) inside) ++ items_html in_output rest

-- a block as a worksheet shows it, in a block of the channel `output` or not
abbrev pub block_html : Bool → Tree → List ℕ
block_html in_output b = shown_html (picture_of b) in_output b.channel b.name (items_html (is_output_tag b.channel b.name) b.items)

abbrev pub piece_html : Bool → Piece → List ℕ
piece_html in_output (text_piece t) = html_text true t
piece_html in_output (block_piece b) = block_html in_output b

-- the anchor of a field, its number as a link to it, and its session
abbrev pub field_head : Field → List ℕ
field_head field = part.field_start ++ decimal field.id ++ part.anchor_end ++ decimal field.id ++ part.link_end ++ decimal field.id ++ part.number_end ++ html_text false field.session ++ part.session_end

-- the lines of an input
abbrev pub lines_html : List ℕ → List ℕ
lines_html input = text_of_lines (html_text false) (10 ∷ []) (lines_of_input input)

-- the prompt and the input
abbrev pub input_html : Field → List ℕ
input_html field = part.input_start ++ html_text false (prompt_shown field.answer) ++ part.prompt_end ++ lines_html field.input ++ part.input_end

-- an output in its element
abbrev pub element_html : Tree → List ℕ
element_html output = part.output_start ++ block_html false output ++ part.output_end

-- the output, if it shows something
abbrev pub answer_html : Answer → List ℕ
answer_html answer = cond (shows_nothing answer.output) [] (element_html answer.output)

-- why a field lost its line
abbrev pub reason_html : Reason → List ℕ
reason_html reason = part.lost_start ++ reason_name reason ++ part.lost_end

-- that there is no answer, with the reason if there is one
abbrev pub no_answer_html : Option Reason → List ℕ
no_answer_html None = part.no_answer
no_answer_html (Some reason) = reason_html reason

-- the output, or a mark that there is no answer
abbrev pub output_html : Option Answer → Option Reason → List ℕ
output_html None lost = no_answer_html lost
output_html (Some answer) lost = answer_html answer

-- a field
unfoldable pub field_html : Field → List ℕ
field_html field = field_head field ++ input_html field ++ output_html field.answer field.lost ++ part.field_end

-- what stands in front of the first field
abbrev pub page_head : List ℕ → List ℕ
page_head title = part.meta ++ html_text false title ++ part.title_end ++ part.style ++ part.style_end ++ html_text false title ++ part.heading_end

-- the fields in order
abbrev pub fields_html : Contents → List ℕ
fields_html sheet = flat_map field_html sheet.fields

-- the page with this title
abbrev pub page : List ℕ → Contents → List ℕ
page title sheet = page_head title ++ fields_html sheet ++ part.page_end
