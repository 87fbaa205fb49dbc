-- What a driver that evaluates fields of a copy keeps in memory, where it prints nothing: marks. (docs/use/CHECK.md.)
use Rattle.std.specs.Prelude.{◌≡◌, ◌==◌, ℕ, ◌+◌, Bool, true, false, List, [], ◌∷◌, ◌++◌, Some, map}
use Rattle.std.specs.List.{flat_map, list_any}
use Rattle.worksheet.specs.declared.refusal.Refusal.{Refusal}
use Rattle.worksheet.specs.declared.refusal.Refusal.TheVariants as refusal
use Rattle.host_events.specs.declared.outcome.Outcome.{Outcome}
use Rattle.host_events.specs.declared.reply.Reply.{Reply}
use Rattle.host_events.specs.declared.reply.Reply.TheVariants as reply
use Rattle.tellings.specs.Voice.{Voice}
use Rattle.tellings.specs.declared.note.Note.{Note}
use Rattle.tellings.specs.declared.note.Note.TheVariants as note
use Rattle.driver.specs.Items.{RunStep, broke, carried, chose, heard, heeded, interrupted, printed, printed_fault, received, refused_whole, rewrote, stalled, took, took_alone, watched}
use Rattle.driver.specs.Place.{SinkRules, sink_rules}
use Rattle.driver.specs.Reports.{Report}
use Rattle.driver.specs.Reports as report
use Rattle.driver.specs.declared.report.Show.{Show}
use Rattle.driver.specs.declared.report.Show.TheVariants as show
use Rattle.sheet_check.specs.declared.marks.Mark.{Mark}
use Rattle.sheet_check.specs.declared.marks.Mark.TheVariants as mark
use Rattle.sheet_check.specs.declared.marks.Marks.{Marks}

-- That there was no memory for a line is a mark, and no other refusal.
abbrev pub refusal_marks : Refusal → List Mark
refusal_marks refusal.OutOfMemory = mark.NoMemory ∷ []
refusal_marks _ = []

-- what a reply says of its line
abbrev pub reply_marks : Reply → List Mark
reply_marks (reply.Asked life) = mark.Asked ∷ []
reply_marks (reply.Refused why) = refusal_marks why
reply_marks reply.Done = []
reply_marks (reply.Field id) = []
reply_marks (reply.Child one) = []
reply_marks reply.Nothing = []

-- the number of the field whose time was over, where that is noted
abbrev pub note_marks : Note → List Mark
note_marks (note.Over id reported) = mark.Over id ∷ []
note_marks (note.Bad line) = []
note_marks (note.Nothing line) = []
note_marks (note.Waited line over) = []
note_marks (note.Interrupted line name reported) = []
note_marks (note.Warned seat reported) = []
note_marks (note.Counted counts) = []
note_marks (note.Undone first last) = []

abbrev pub shown_marks : Show → List Mark
shown_marks (show.Note n) = note_marks n
shown_marks (show.Sheet line) = []
shown_marks (show.Field line id) = []
shown_marks (show.Export line format) = []

-- of lines, one after another
abbrev pub line_marks : List Outcome → List Mark
line_marks outcomes = flat_map (λ o. reply_marks o.reply) outcomes

-- A beginning of these marks was kept.
pub record KeptFront (old new marks : List Mark) : Type 0 where
  pub front : List Mark
  pub rest : List Mark
  pub split : front ++ rest ≡ marks
  pub kept : new ≡ old ++ front

-- Of all else nothing is kept.
abbrev pub report_marks : Report → List Mark
report_marks (report.lines first outcomes) = line_marks outcomes
report_marks (report.lives outcomes) = []
report_marks (report.followed replies) = []
report_marks (report.shown s) = shown_marks s

abbrev pub step_marks : RunStep → List Mark
step_marks (printed s) = report_marks s
step_marks (chose t) = []
step_marks (watched q w) = []
step_marks (heard events) = []
step_marks (took events outcomes followed) = []
step_marks (refused_whole events one) = []
step_marks (took_alone e o) = []
step_marks (carried o a) = []
step_marks (received e) = []
step_marks (rewrote b) = []
step_marks (stalled seats) = []
step_marks (interrupted name reported) = []
step_marks (heeded c n) = []
step_marks (broke entries why) = []
step_marks (printed_fault why whole) = []

-- the marks of these steps, in the order in which they came
abbrev pub marks_of : List RunStep → List Mark
marks_of steps = flat_map step_marks steps

-- A voice's texts are numbers: one for each mark.
abbrev pub number_of : Mark → ℕ
number_of mark.Asked = 0
number_of mark.NoMemory = 1
number_of (mark.Over id) = id + 2

abbrev pub numbers_of : List Mark → List ℕ
numbers_of marks = map number_of marks

-- A voice that says marks alone, to a sink that keeps them.
abbrev pub mark_voice : Voice
mark_voice = record { frame = λ f. []; note = λ n. numbers_of (note_marks n); reply = λ line sheet r. numbers_of (reply_marks r); came = λ w r. []; sheet = λ line w. []; field = λ line id w. []; exported = λ line format sheet. []; fault = λ why. []; takes_memory = true; in_lines = false }

-- what such a sink may do
abbrev pub mark_rules : SinkRules Marks
mark_rules = sink_rules mark_voice (λ k. Some (numbers_of k.kept)) (λ k disk text whole l. Unit {0})

-- What marks say.

abbrev pub is_over : ℕ → Mark → Bool
is_over id mark.Asked = false
is_over id mark.NoMemory = false
is_over id (mark.Over one) = one == id

abbrev pub is_asked : Mark → Bool
is_asked mark.Asked = true
is_asked mark.NoMemory = false
is_asked (mark.Over one) = false

abbrev pub is_no_memory : Mark → Bool
is_no_memory mark.Asked = false
is_no_memory mark.NoMemory = true
is_no_memory (mark.Over one) = false

-- whether the time of the field with this number was over
abbrev pub is_late : List Mark → ℕ → Bool
is_late marks id = list_any (is_over id) marks

-- whether a line was asked
abbrev pub was_asked : List Mark → Bool
was_asked marks = list_any is_asked marks

-- whether there was no memory for one
abbrev pub lacked_memory : List Mark → Bool
lacked_memory marks = list_any is_no_memory marks
