-- A worksheet as Markdown.
use Rattle.std.specs.Prelude.{ℕ, Bool, false, List, [], ◌∷◌, ◌++◌, Option, Some, None, codes, cond}
use Rattle.std.specs.List.{flat_map}
use Rattle.block_tree.specs.declared.reason.Reason.{Reason}
use Rattle.worksheet.specs.Contents.{Contents}
use Rattle.worksheet.specs.declared.field.Answer.{Answer}
use Rattle.worksheet.specs.declared.field.Field.{Field}
use Rattle.sheet_text.specs.Blocks.{block_text}
use Rattle.sheet_text.specs.Escape.{on_line, on_lines}
use Rattle.sheet_text.specs.InputLines.{lines_of_input, text_of_lines}
use Rattle.sheet_text.specs.Replies.{reason_name}
use Rattle.sheet_text.specs.Texts.{in_lines}
use Rattle.sheet_export.specs.Fences.{fenced}
use Rattle.sheet_notebook.specs.Empty.{shows_nothing}
use Rattle.sheet_notebook.specs.Formulas.{formula_after, formula_of}

-- the lines of an input
abbrev pub input_code : List ℕ → List ℕ
input_code input = text_of_lines on_line (10 ∷ []) (lines_of_input input)

-- the input, as code of its session
abbrev pub input_markdown : Field → List ℕ
input_markdown field = fenced field.session (input_code field.input ++ 10 ∷ [])

-- a formula on a line, or an output as `print` shows it
abbrev pub whole_markdown : Option (List ℕ) → Answer → List ℕ
whole_markdown (Some formula) answer = formula ++ 10 ∷ []
whole_markdown None answer = fenced [] (in_lines (block_text answer.output))

-- a text that was printed, an empty line, and the formula that follows the text
abbrev pub printed_markdown : List ℕ → List ℕ → List ℕ
printed_markdown printed formula = fenced [] (in_lines (on_lines printed)) ++ 10 ∷ [] ++ (formula ++ 10 ∷ [])

-- such two, or an output as one
abbrev pub answer_markdown : Option (List ℕ × List ℕ) → Answer → List ℕ
answer_markdown (Some found) answer = printed_markdown found.0 found.1
answer_markdown None answer = whole_markdown (formula_of answer.output) answer

-- that there is no answer, with the reason if there is one
abbrev pub no_answer_markdown : Option Reason → List ℕ
no_answer_markdown None = codes "*no answer*\n"
no_answer_markdown (Some reason) = codes "*no answer: " ++ reason_name reason ++ codes "*\n"

-- the output, or that there is none
abbrev pub output_markdown : Option Answer → Option Reason → List ℕ
output_markdown None lost = no_answer_markdown lost
output_markdown (Some answer) lost = answer_markdown (formula_after answer.output) answer

-- whether there is an answer, and it shows nothing
abbrev pub answers_nothing : Option Answer → Bool
answers_nothing None = false
answers_nothing (Some answer) = shows_nothing answer.output

-- an empty line, and the output, or that there is none; nothing where an answer shows nothing
abbrev pub outcome_markdown : Field → List ℕ
outcome_markdown field = cond (answers_nothing field.answer) [] (10 ∷ output_markdown field.answer field.lost)

-- a field
unfoldable pub field_markdown : Field → List ℕ
field_markdown field = input_markdown field ++ outcome_markdown field

-- fields, each after an empty line
abbrev pub fields_after : List Field → List ℕ
fields_after fields = flat_map (λ field. 10 ∷ field_markdown field) fields

-- the fields in order, with an empty line between each two
abbrev pub fields_markdown : List Field → List ℕ
fields_markdown [] = []
fields_markdown (field ∷ fields) = field_markdown field ++ fields_after fields

abbrev pub markdown : Contents → List ℕ
markdown sheet = fields_markdown sheet.fields
