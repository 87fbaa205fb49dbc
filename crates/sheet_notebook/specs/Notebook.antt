-- A worksheet as a notebook (nbformat 4.5), the members of each object in the order of their names.
use Rattle.std.specs.Prelude.{ℕ, Bool, false, List, ◌++◌, ◌&&◌, ◌||◌, Option, Some, None, codes, cond, is_some, map, true, unwrap_or}
use Rattle.std.specs.Fmt.{decimal}
use Rattle.std.specs.List.{list_any}
use Rattle.block_tree.specs.Tree.{Tree, block_piece, text_piece}
use Rattle.serde_json.specs.Data.{Data, null, number, string, array, object, unsigned, item, no_items, member, no_members}
use Rattle.serde_json.specs.View.{items_of}
use Rattle.serde_json.specs.Written.{compact_text}
use Rattle.worksheet.specs.Contents.{Contents}
use Rattle.worksheet.specs.declared.field.Answer.{Answer}
use Rattle.worksheet.specs.declared.field.Field.{Field}
use Rattle.sheet_text.specs.InputLines.{unfolded}
use Rattle.sheet_text.specs.Blocks.{is_bare}
use Rattle.sheet_notebook.specs.Empty.{shows_nothing}
use Rattle.sheet_notebook.specs.Formulas.{formula_of}
use Rattle.sheet_notebook.specs.Parts.{Part, output_parts}
use Rattle.sheet_notebook.specs.Pictures.{is_error_tag, drawn_as, picture_of}
use Rattle.sheet_notebook.specs.Strings.{block_string, items_string, string_of}
use Rattle.sheet_notebook.specs.declared.pictures.PictureKind.{PictureKind}
use Rattle.sheet_notebook.specs.declared.pictures.PictureKind.TheVariants as kind

-- an output as text
abbrev pub plain_bundle : Tree → Data
plain_bundle output = object (member (codes "text/plain") (string (block_string output)) no_members)

-- a formula, and beside it its TeX as text
abbrev pub formula_bundle : List ℕ → Data
formula_bundle formula = object (member (codes "text/latex") (string (string_of true formula)) (member (codes "text/plain") (string (string_of true formula)) no_members))

-- a picture, and beside it what it is
abbrev pub picture_bundle : PictureKind → List ℕ → Data
picture_bundle kind.Png given = object (member (codes "image/png") (string (string_of true given)) (member (codes "text/plain") (string (codes "A picture (PNG)")) no_members))
picture_bundle kind.Jpeg given = object (member (codes "image/jpeg") (string (string_of true given)) (member (codes "text/plain") (string (codes "A picture (JPEG)")) no_members))
picture_bundle kind.Svg given = object (member (codes "image/svg+xml") (string (string_of true given)) (member (codes "text/plain") (string (codes "A picture (SVG)")) no_members))

-- what an interpreter answered
abbrev pub result_of : Data → Data
result_of given = object (member (codes "data") given (member (codes "execution_count") null
    (member (codes "metadata") (object no_members) (member (codes "output_type") (string (codes "execute_result")) no_members))))

-- what it showed
abbrev pub display_of : Data → Data
display_of given = object (member (codes "data") given (member (codes "metadata") (object no_members) (member (codes "output_type") (string (codes "display_data")) no_members)))

-- what it printed
abbrev pub stream_data : List ℕ → Data
stream_data printed = object (member (codes "name") (string (codes "stdout")) (member (codes "output_type") (string (codes "stream"))
    (member (codes "text") (string printed) no_members)))

-- what it reports as an error
abbrev pub error_data : List ℕ → Data
error_data reported = object (member (codes "ename") (string (codes "Error")) (member (codes "evalue") (string reported) (member (codes "output_type") (string (codes "error"))
    (member (codes "traceback") (array (item (string reported) no_items)) no_members))))

-- a picture that isn't drawn, by its format
abbrev pub undrawn_text : List ℕ → List ℕ
undrawn_text name = codes "{" ++ (string_of false name ++ codes ": not drawn}")

-- a picture of this kind, if it is one
abbrev pub picture_output : Option PictureKind → List ℕ → List ℕ → Data
picture_output (Some drawn) name given = display_of (picture_bundle drawn given)
picture_output None name given = stream_data (undrawn_text name)

-- a picture or a formula, of what a block is found to be
abbrev pub media_output : Option (List ℕ) → Option (List ℕ) → List ℕ → Option Data
media_output (Some given) formula name = Some (picture_output (drawn_as name given) name given)
media_output None (Some formula) name = Some (result_of (formula_bundle formula))
media_output None None name = None

-- a picture or a formula, if a block is one
abbrev pub media_of : Tree → Option Data
media_of b = media_output (picture_of b) (formula_of b) b.name

-- an error, a picture or a formula, in a block of the channel `output` or not; none where a block is text
abbrev pub own_output : Bool → Tree → Option Data
own_output in_output b = cond (is_error_tag in_output b.channel b.name) (Some (error_data (items_string b.items))) (media_of b)

-- such a one, or the block as text
abbrev pub block_output : Bool → Tree → Data
block_output in_output b = unwrap_or (own_output in_output b) (stream_data (block_string b))

-- what a part is as an output
abbrev pub part_output : Part → Data
part_output (in_output, text_piece t) = stream_data (string_of true t)
part_output (in_output, block_piece b) = block_output in_output b

-- whether a block is a picture or a formula
abbrev pub is_media : Tree → Bool
is_media b = is_some (picture_of b) || is_some (formula_of b)

-- whether a part is an error, a picture or a formula
abbrev pub is_own_part : Part → Bool
is_own_part (in_output, text_piece t) = false
is_own_part (in_output, block_piece b) = is_error_tag in_output b.channel b.name || is_media b

-- whether the parts of an output are outputs of their own: it has no tag in braces, and one of them is more than text
abbrev pub has_parts : Tree → Bool
has_parts b = is_bare b.channel b.name && list_any is_own_part (output_parts b)

abbrev pub whole_output : Tree → Data
whole_output b = unwrap_or (own_output false b) (result_of (plain_bundle b))

-- what an interpreter printed, showed and answered, in its order, or the output as one
unfoldable pub outputs_in : Tree → Data
outputs_in b = cond (has_parts b) (array (items_of (map part_output (output_parts b)))) (array (item (whole_output b) no_items))

-- the outputs of an answer: none where it shows nothing
abbrev pub answer_outputs : Tree → Data
answer_outputs output = cond (shows_nothing output) (array no_items) (outputs_in output)

-- the outputs of a cell: none of a field without an answer
abbrev pub outputs_of : Option Answer → Data
outputs_of None = array no_items
outputs_of (Some answer) = answer_outputs answer.output

-- the session of a field, under the name of this program
abbrev pub cell_metadata : Field → Data
cell_metadata field = object (member (codes "tmhost") (object (member (codes "session") (string (string_of true field.session)) no_members)) no_members)

-- a field as a cell of code, its input with a line feed for each U+2028
unfoldable pub cell_of : Field → Data
cell_of field = object (member (codes "cell_type") (string (codes "code")) (member (codes "execution_count") null (member (codes "id") (string (codes "field-" ++ decimal field.id))
    (member (codes "metadata") (cell_metadata field) (member (codes "outputs") (outputs_of field.answer) (member (codes "source") (string (string_of true (unfolded field.input))) no_members))))))

-- the cells of the fields, in their order
abbrev pub cells_of : List Field → Data
cells_of fields = array (items_of (map cell_of fields))

-- the notebook
abbrev pub notebook : Contents → Data
notebook sheet = object (member (codes "cells") (cells_of sheet.fields) (member (codes "metadata") (object no_members)
    (member (codes "nbformat") (number (unsigned 4)) (member (codes "nbformat_minor") (number (unsigned 5)) no_members))))

-- its text, with no space between its parts
abbrev pub notebook_text : Contents → List ℕ
notebook_text sheet = compact_text (notebook sheet)
