-- How a worksheet's fields and sessions are shown.
use Rattle.std.specs.Prelude.{ℕ, Bool, true, false, List, [], ◌∷◌, ◌++◌, Option, Some, None, map}
use Rattle.block_tree.specs.declared.reason.Reason.{Reason}
use Rattle.worksheet.specs.Contents.{Contents}
use Rattle.worksheet.specs.declared.field.Answer.{Answer}
use Rattle.worksheet.specs.declared.field.Field.{Field}
use Rattle.worksheet.specs.declared.field.Session.{Session}
use Rattle.sheet_text.specs.InputLines.{unfolded}
use Rattle.sheet_json.specs.Tellings.{FieldShown, SessionShown, State, Telling}
use Rattle.sheet_json.specs.Tellings as reported

-- by its answer, by the reason why it has none, and by whether its line waits for one
abbrev pub state_shown : Bool → Option Answer → Option Reason → State
state_shown waits (Some answer) lost = reported.answered answer.prompt answer.output
state_shown waits None (Some why) = reported.lost why
state_shown true None None = reported.waiting
state_shown false None None = reported.empty

-- its input has a line feed for each U+2028
abbrev pub field_reported : Bool → Field → FieldShown
field_reported waits field = record { id = field.id; session = field.session; input = unfolded field.input; state = state_shown waits field.answer field.lost }

abbrev pub session_shown : Option ℕ → ℕ → Session → SessionShown
session_shown life waiting s = record { name = s.name; tab = s.tab; words = s.words; life = life; waiting = waiting }

abbrev pub ids_of : Contents → List ℕ
ids_of sheet = map (λ f. f.id) sheet.fields

-- of a worksheet that no host has no life goes on, and nothing waits

abbrev pub still_session : Session → SessionShown
still_session s = session_shown None 0 s

abbrev pub still_sessions : Contents → List SessionShown
still_sessions sheet = map still_session sheet.sessions

abbrev pub still_field : Field → Telling
still_field field = reported.shown (field_reported false field)

-- what it is together
abbrev pub whole_of : Contents → Telling
whole_of sheet = reported.whole (ids_of sheet) sheet.next (still_sessions sheet)

-- all that is printed of it: its fields in order, and what they are together
abbrev pub sheet_tellings : Contents → List Telling
sheet_tellings sheet = reported.hello ∷ (map still_field sheet.fields ++ whole_of sheet ∷ reported.end ∷ [])
