-- Which fields are evaluated, which of them are passed over, and what an evaluation comes to. (docs/use/EVAL.md.)
use Rattle.std.specs.Prelude.{◌≡◌, ◌==◌, ◌<◌, ◌≤◌, ◌-◌, ◌&&◌, ◌||◌, ℕ, Bool, true, false, not, List, [], ◌∷◌, Option, Some, None, codes, count_by, filter, find, if◌then◌else◌, is_some, length, map, nat_lt, slice_get}
use Rattle.std.specs.List.{list_any}
use Rattle.std.specs.Str.{bytes_eq}
use Rattle.worksheet.specs.Checks.{field_in, session_named}
use Rattle.worksheet.specs.Contents.{Contents}
use Rattle.worksheet.specs.declared.field.Answer.{Answer}
use Rattle.worksheet.specs.declared.field.Field.{Field}
use Rattle.worksheet.specs.declared.field.Session.{Session}
use Rattle.check_report.specs.Errors.{brings_error, tells_error}
use Rattle.tellings.specs.declared.note.Counts.{Counts}
use Rattle.tellings.specs.declared.note.Overs.{Overs}
use Rattle.evaluation.specs.Lasts.{last_asked}
use Rattle.evaluation.specs.declared.lasts.Last.{Last}
use Rattle.evaluation.specs.declared.plan.Plan.{Plan}
use Rattle.evaluation.specs.declared.plan.Spared.{Spared}
use Rattle.evaluation.specs.declared.plan.Spared.TheVariants as spared
use Rattle.evaluation.specs.declared.plan.Stand.{Stand}
use Rattle.evaluation.specs.declared.plan.Which.{Which}
use Rattle.evaluation.specs.declared.plan.Which.TheVariants as which

-- Whether a field shows an answer.
abbrev pub is_answered : Field → Bool
is_answered field = is_some field.answer

-- Whether it shows an answer that is an error.
abbrev pub shows_error : Field → Bool
shows_error field = brings_error field.answer

-- one of these numbers is that of this field
abbrev pub is_one_of : List ℕ → Field → Bool
is_one_of ids field = list_any (λ id. id == field.id) ids

-- the field with this number and those after it
abbrev pub fields_from : ℕ → List Field → List Field
fields_from id [] = []
fields_from id (field ∷ fields) = if field.id == id then field ∷ fields else fields_from id fields

-- The fields that are asked for: all, those that are named, or one and those after it.
abbrev pub asked_for : Which → List Field → List Field
asked_for which.All fields = fields
asked_for (which.Named ids) fields = filter (is_one_of ids) fields
asked_for (which.From id) fields = fields_from id fields

-- these words are `true` alone: a program that ends at once, so that it answers nothing
abbrev pub is_true_alone : List (List ℕ) → Bool
is_true_alone [] = false
is_true_alone (word ∷ []) = bytes_eq word (codes "true")
is_true_alone (word ∷ other ∷ words) = false

-- such a session is one of prose
abbrev pub has_prose : Option Session → Bool
has_prose None = false
has_prose (Some session) = is_true_alone session.words

-- the field is prose, by its session
abbrev pub is_prose : List Session → Field → Bool
is_prose sessions field = has_prose (session_named sessions field.session)

-- whether fields are asked for by their numbers
abbrev pub are_named : Which → Bool
are_named which.All = false
are_named (which.Named ids) = true
are_named (which.From id) = false

-- a field lacks an answer: it shows none, and isn't prose
abbrev pub is_lacking : List Session → Field → Bool
is_lacking sessions field = not (is_answered field) && not (is_prose sessions field)

-- Whether a session is changed: a field of it lacks an answer, as one does whose line was changed.
abbrev pub is_changed : Contents → List ℕ → Bool
is_changed sheet session = list_any (λ field. is_lacking sheet.sessions field && bytes_eq field.session session) sheet.fields

-- Whether a field that is asked for is spared, so that it keeps what it shows: none is, those are that show an answer, or those of sessions that
-- aren't changed.
abbrev pub is_spared : Spared → Contents → Field → Bool
is_spared spared.Nothing sheet field = false
is_spared spared.Answered sheet field = is_answered field
is_spared spared.Unchanged sheet field = not (is_changed sheet field.session)

-- Whether a field that is asked for is to be evaluated: it isn't spared, and isn't prose, but where its number is named.
abbrev pub is_meant : Plan → Contents → Field → Bool
is_meant plan sheet field = not (is_spared plan.spared sheet field) && (are_named plan.which || not (is_prose sheet.sessions field))

-- The numbers of the fields that are to be evaluated, each once, in the worksheet's order.
abbrev pub meant_in : Plan → Contents → List ℕ
meant_in plan sheet = map (λ field. field.id) (filter (is_meant plan sheet) (asked_for plan.which sheet.fields))

-- no field has this number
abbrev pub is_missing : List Field → ℕ → Bool
is_missing fields id = not (is_some (field_in fields id))

-- The first number that is asked for and that no field has. Where there is one, nothing is evaluated.
abbrev pub missing_in : Which → List Field → Option ℕ
missing_in which.All fields = None
missing_in (which.Named ids) fields = find (is_missing fields) ids
missing_in (which.From id) fields = find (is_missing fields) (id ∷ [])

-- this one of these fields shows no answer
abbrev pub shows_none : Option Field → Bool
shows_none None = false
shows_none (Some field) = not (is_answered field)

abbrev pub is_unanswered : List Field → ℕ → Bool
is_unanswered fields id = shows_none (field_in fields id)

-- the field with this number, where there is one, shows no answer
abbrev pub is_lost : List Field → Option ℕ → Bool
is_lost fields None = false
is_lost fields (Some id) = is_unanswered fields id

-- the field that was asked last of this one's session shows no answer
abbrev pub is_after_lost : List Field → List Last → Option Field → Bool
is_after_lost fields lasts None = false
is_after_lost fields lasts (Some field) = is_lost fields (last_asked lasts field.session)

-- whether a field is passed over: where the one that was asked last of its session shows no answer, so that its interpreter ended or didn't start
abbrev pub passes : Plan → List Field → List Last → Option Field → Bool
passes plan fields lasts field = not plan.keep_going && is_after_lost fields lasts field

abbrev pub field_at : List Field → Option ℕ → Option Field
field_at fields None = None
field_at fields (Some id) = field_in fields id

-- the field with this number is passed over, by the one of its session that was asked last
abbrev pub is_passed_over : Plan → List Field → List Last → ℕ → Bool
is_passed_over plan fields lasts id = passes plan fields lasts (field_in fields id)

-- the same of the field at this place of those that are to be evaluated
abbrev pub is_passed : Plan → List Field → List Last → List ℕ → ℕ → Bool
is_passed plan fields lasts meant k = passes plan fields lasts (field_at fields (slice_get meant k))

-- This place is after that one, or the same, and the fields from that one up to it are passed over.
abbrev pub IsNext : Plan → List Field → List Last → List ℕ → ℕ → ℕ → Type 0
IsNext plan fields lasts meant from at = (from ≤ at) × ((k : ℕ) → from ≤ k → k < at → is_passed plan fields lasts meant k ≡ true)

-- Whether a field went wrong: it shows no answer, or one that is an error where that is wrong too.
abbrev pub is_wrong_answer : Bool → Option Answer → Bool
is_wrong_answer at_errors None = true
is_wrong_answer at_errors (Some answer) = at_errors && tells_error answer.output

abbrev pub is_wrong_field : Bool → Option Field → Bool
is_wrong_field at_errors None = false
is_wrong_field at_errors (Some field) = is_wrong_answer at_errors field.answer

-- Whether the field that was asked last went wrong: no item waited after its `eval`, or it shows no answer, or an error where that is wrong too.
abbrev pub last_went_wrong : Bool → List Field → Stand → Bool
last_went_wrong at_errors fields stand = stand.at_once || is_wrong_field at_errors (field_in fields stand.field)

-- the number of the field after which a strict evaluation stops where no item waits any more, if it does
abbrev pub stop_field : Plan → List Field → Stand → Option ℕ
stop_field plan fields stand = if plan.strict && last_went_wrong plan.at_errors fields stand then Some stand.field else None

-- The field at this place, which has this number, is asked next: it isn't passed over, all from the last one on are, and a strict evaluation
-- doesn't stop here.
pub record IsAsked (plan : Plan) (fields : List Field) (meant : List ℕ) (stand : Stand) (k id : ℕ) : Type 0 where
  pub goes_on : stop_field plan fields stand ≡ None
  pub next : IsNext plan fields stand.lasts meant stand.taken k
  pub there : slice_get meant k ≡ Some id
  pub asked : is_passed plan fields stand.lasts meant k ≡ false

-- It comes to its end here: a strict one stops after this field, or all fields that are to come are passed over.
pub record EndsHere (plan : Plan) (fields : List Field) (meant : List ℕ) (stand : Stand) (stopped : Option ℕ) : Type 0 where
  pub is : stopped ≡ stop_field plan fields stand
  pub all : stopped ≡ None → IsNext plan fields stand.lasts meant stand.taken (length meant)

-- whether it is said how many fields were over and passed over, of which so many weren't asked: with a limit of time, and without one where some were passed
-- over. A strict evaluation without a limit passes none over.
abbrev pub counts_overs : Plan → ℕ → Bool
counts_overs plan passed = is_some plan.limit || (not plan.strict && nat_lt 0 passed)

-- how many were over, and passed over, where so many fields were to be evaluated
abbrev pub overs_by : Plan → ℕ → Stand → Option Overs
overs_by plan all stand = if counts_overs plan (all - stand.asked) then Some (record { over = stand.overs; passed = all - stand.asked }) else None

-- How many of a worksheet's fields show an answer, how many lack one, how many show an error, and how many were over or passed over.
abbrev pub evaluation_counts : Plan → ℕ → Contents → Stand → Counts
evaluation_counts plan all sheet stand = record {
  answered = count_by is_answered sheet.fields;
  unanswered = count_by (is_lacking sheet.sessions) sheet.fields;
  errors = count_by shows_error sheet.fields;
  overs = overs_by plan all stand;
}
