-- What a reply and a worksheet look like in print.
use Rattle.std.specs.Prelude.{ℕ, ◌==◌, Bool, false, List, [], ◌∷◌, ◌++◌, Option, Some, None, codes, if◌then◌else◌}
use Rattle.std.specs.Fmt.{decimal}
use Rattle.std.specs.List.{flat_map, last_or}
use Rattle.block_tree.specs.declared.reason.Reason.{Reason}
use Rattle.worksheet.specs.Contents.{Contents}
use Rattle.worksheet.specs.Refusals.{refusal_number, refusal_name}
use Rattle.worksheet.specs.declared.field.Answer.{Answer}
use Rattle.worksheet.specs.declared.field.Field.{Field}
use Rattle.worksheet.specs.declared.refusal.Refusal.{Refusal}
use Rattle.host_events.specs.declared.reply.Reply.{Reply}
use Rattle.host_events.specs.declared.reply.Reply.TheVariants as reply
use Rattle.sheet_text.specs.Escape.{on_line}
use Rattle.sheet_text.specs.Blocks.{block_text}
use Rattle.sheet_text.specs.InputLines.{lines_of_input, text_of_lines}
use Rattle.sheet_text.specs.Replies.{child_text, reason_name}

-- 'refused', the number and the name
abbrev pub refused_line : Refusal → List ℕ
refused_line refusal = codes "refused " ++ decimal (refusal_number refusal) ++ codes " " ++ refusal_name refusal ++ 10 ∷ []

-- the lines of a reply
abbrev pub reply_text : Reply → List ℕ
reply_text reply.Done = codes "ok\n"
reply_text (reply.Field id) = codes "field " ++ decimal id ++ 10 ∷ []
reply_text (reply.Asked number) = codes "asked\n"
reply_text (reply.Refused refusal) = refused_line refusal
reply_text (reply.Child reported) = child_text reported
reply_text reply.Nothing = []

-- '#', the number, the session's name
abbrev pub number_line : Field → List ℕ
number_line field = codes "#" ++ decimal field.id ++ codes " " ++ field.session ++ 10 ∷ []

-- the prompt of the answer, or `> ` where there is none
abbrev pub prompt_shown : Option Answer → List ℕ
prompt_shown None = codes "> "
prompt_shown (Some answer) = answer.prompt

-- what stands between two lines of an input: the second begins after '. '
abbrev pub line_between : List ℕ
line_between = codes "\n. "

-- the prompt and the input
abbrev pub input_line : Field → List ℕ
input_line field = on_line (prompt_shown field.answer) ++ text_of_lines on_line line_between (lines_of_input field.input) ++ 10 ∷ []

abbrev pub is_line_feed : Option ℕ → Bool
is_line_feed None = false
is_line_feed (Some byte) = byte == 10

-- whether the last byte is a line feed
abbrev pub ends_line : List ℕ → Bool
ends_line text = is_line_feed (last_or None text)

-- whole lines: a line feed after a text that is empty or doesn't end in one
abbrev pub in_lines : List ℕ → List ℕ
in_lines text = if ends_line text then text else text ++ 10 ∷ []

-- where there is no answer, `?`, and after it the reason if there is one
abbrev pub no_answer_line : Option Reason → List ℕ
no_answer_line None = codes "?\n"
no_answer_line (Some reason) = codes "? " ++ reason_name reason ++ 10 ∷ []

-- the output, or that there is none
abbrev pub output_lines : Option Answer → Option Reason → List ℕ
output_lines None lost = no_answer_line lost
output_lines (Some answer) lost = in_lines (block_text answer.output)

abbrev pub field_text : Field → List ℕ
field_text field = number_line field ++ input_line field ++ output_lines field.answer field.lost

-- the fields in order
abbrev pub sheet_text : Contents → List ℕ
sheet_text sheet = flat_map field_text sheet.fields
