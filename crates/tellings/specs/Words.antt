-- What is printed, in words. (docs/use/SCRIPT.md, "Live".)
use Rattle.std.specs.Fmt.{decimal}
use Rattle.std.specs.Prelude.{◌==◌, ℕ, false, List, [], ◌∷◌, ◌++◌, Option, Some, None, codes, cond}
use Rattle.worksheet.specs.Checks.{field_in}
use Rattle.worksheet.specs.Contents.{Contents}
use Rattle.worksheet.specs.declared.field.Field.{Field}
use Rattle.worksheet.specs.declared.refusal.Refusal.TheVariants as refusal
use Rattle.session_engine.specs.World.{sheet_in}
use Rattle.child_edge.specs.declared.interrupting.Interrupted.{Interrupted}
use Rattle.child_edge.specs.declared.interrupting.Interrupted.TheVariants as interrupted
use Rattle.sheet_text.specs.Texts.{field_text, refused_line, reply_text, sheet_text}
use Rattle.offline_programs.specs.Memory.{bad_line}
use Rattle.sheet_export.specs.Formats.{format_name, has_text, is_made_whole, text_in}
use Rattle.sheet_export.specs.declared.formats.Format.{Format}
use Rattle.tellings.specs.Voice.{Voice, page_title}
use Rattle.tellings.specs.declared.note.Counts.{Counts}
use Rattle.tellings.specs.declared.note.Note.{Note}
use Rattle.tellings.specs.declared.note.Note.TheVariants as note
use Rattle.tellings.specs.declared.note.Overs.{Overs}

-- one field in print, or that there is none
abbrev pub field_shown : Option Field → List ℕ
field_shown (Some field) = field_text field
field_shown None = refused_line refusal.NoField

-- what came of the wish to interrupt the interpreter of this session
abbrev pub interrupt_text : List ℕ → Interrupted → List ℕ
interrupt_text name interrupted.NoSession = refused_line refusal.NoSession
interrupt_text name interrupted.Idle = codes "idle " ++ name ++ 10 ∷ []
interrupt_text name interrupted.Sent = codes "interrupted " ++ name ++ 10 ∷ []
interrupt_text name interrupted.Failed = codes "failed " ++ name ++ 10 ∷ []

-- the line of an evaluation that counts fields whose time was over, and fields that it passed over
abbrev pub overs_text : Option Overs → List ℕ
overs_text None = []
overs_text (Some overs) = codes "over " ++ decimal overs.over ++ codes " passed " ++ decimal overs.passed ++ 10 ∷ []

abbrev pub answers_text : Counts → List ℕ
answers_text counts = codes "answered " ++ decimal counts.answered ++ codes " unanswered " ++ decimal counts.unanswered ++ 10 ∷ []

-- how many fields show an error, where one does
abbrev pub errors_text : ℕ → List ℕ
errors_text errors = cond (errors == 0) [] (codes "errors " ++ decimal errors ++ 10 ∷ [])

-- what an evaluation came to: a line of the fields with and without an answer; one of those that show an error, where some do; and one of those that were
-- over or passed over, where these are counted
abbrev pub evaluation_text : Counts → List ℕ
evaluation_text counts = answers_text counts ++ errors_text counts.errors ++ overs_text counts.overs

-- the time of the field with this number is over
abbrev pub over_line : ℕ → List ℕ
over_line id = codes "over " ++ decimal id ++ 10 ∷ []

-- of the transaction between the lines with these numbers nothing was done
abbrev pub undone_line : ℕ → ℕ → List ℕ
undone_line first last = codes "undone " ++ decimal first ++ codes " " ++ decimal last ++ 10 ∷ []

-- what is printed of a note: nothing of a remark and of the end of a wait
abbrev pub note_words : Note → List ℕ
note_words (note.Bad line) = bad_line line
note_words (note.Nothing line) = []
note_words (note.Waited line timed) = []
note_words (note.Interrupted line name reported) = interrupt_text name reported
note_words (note.Over id reported) = over_line id
note_words (note.Warned seat reported) = interrupt_text seat.name reported
note_words (note.Counted counts) = evaluation_text counts
note_words (note.Undone first last) = undone_line first last

-- a format whose text is made whole in memory, which words don't take
abbrev pub needs_json : Format → List ℕ
needs_json format = codes "export " ++ format_name format ++ codes " needs --json\n"

-- a worksheet in a format, or that it isn't written in it
abbrev pub exported_words : Format → Contents → List ℕ
exported_words format sheet =
    cond (is_made_whole format) (needs_json format) (cond (has_text format sheet) (text_in format page_title sheet) (codes "no script\n"))

-- Words that people read. The number of a line is printed for a bad line and for a transaction that was not done; a fault is printed elsewhere.
abbrev pub in_words : Voice
in_words = record {
  frame = λ f. [];
  note = note_words;
  reply = λ line sheet r. reply_text r;
  came = λ w r. reply_text r;
  sheet = λ line w. sheet_text (sheet_in w);
  field = λ line id w. field_shown (field_in (sheet_in w).fields id);
  exported = λ line format sheet. exported_words format sheet;
  fault = λ why. [];
  takes_memory = false;
  in_lines = false;
}
