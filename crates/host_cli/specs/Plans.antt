-- What the words of `eval` ask for (docs/use/EVAL.md), and what those of `check` do beside its request.
use Rattle.std.specs.Prelude.{◌≡◌, ◌&&◌, ◌||◌, ℕ, Bool, true, false, List, [], ◌∷◌, Option, Some, None, cond, is_some, length, map, nat_le, nat_lt, Result, Ok, Err}
use Rattle.std.specs.Option.{option_map}
use Rattle.std.specs.Borrow.{Bor}
use Rattle.clap.specs.Words.{Text}
use Rattle.check_report.specs.declared.report.ReportFormat.{ReportFormat}
use Rattle.check_report.specs.declared.report.ReportFormat.TheVariants as format
use Rattle.check_report.specs.declared.request.Request.{Request}
use Rattle.command_words.specs.Asked.{EvalView}
use Rattle.sheet_text.specs.Script.{number_written}
use Rattle.live.specs.LiveLines.{most_seconds}
use Rattle.evaluation.specs.declared.plan.Plan.{Plan}
use Rattle.evaluation.specs.declared.plan.Spared.{Spared}
use Rattle.evaluation.specs.declared.plan.Spared.TheVariants as spared
use Rattle.evaluation.specs.declared.plan.Which.{Which}
use Rattle.evaluation.specs.declared.plan.Which.TheVariants as which
use Rattle.host_cli.specs.declared.plans.JobsFault.{JobsFault}
use Rattle.host_cli.specs.declared.plans.JobsFault.TheVariants as jobs_fault
use Rattle.host_cli.specs.declared.plans.PlanFault.{PlanFault}
use Rattle.host_cli.specs.declared.plans.PlanFault.TheVariants as plans
use Rattle.host_cli.specs.declared.plans.SeveralFault.{SeveralFault}
use Rattle.host_cli.specs.declared.plans.SeveralFault.TheVariants as several_fault
use Rattle.sheet_check.specs.declared.manner.CheckSetup.{CheckSetup}

-- the text of a word that may be given, and those of words
abbrev pub word_text : Option (Bor Text) → Option Text
word_text word = option_map (λ it. it.now) word

abbrev pub word_texts : List (Bor Text) → List Text
word_texts words = map (λ word. word.now) words

-- the time that a field may take: 1 to 1,000,000 seconds, or without a limit
abbrev pub seconds_by : Bool → ℕ → Option (Option ℕ)
seconds_by true seconds = Some (Some seconds)
seconds_by false seconds = None

abbrev pub limit_if : Option ℕ → Option (Option ℕ)
limit_if None = None
limit_if (Some seconds) = seconds_by (nat_le 1 seconds && nat_le seconds most_seconds) seconds

abbrev pub limit_asked : Option Text → Option (Option ℕ)
limit_asked None = Some None
limit_asked (Some text) = limit_if (number_written text)

-- in so many sessions fields may wait at a time at most
abbrev pub most_jobs : ℕ
most_jobs = 64

-- In how many sessions they may where no words write that, neither of `eval` nor of `check`: in the most. But in 1, so that fields go one
-- after another, where an evaluation is strict or a check accepts, and where a field's time has a limit, which is exact only so.
abbrev pub jobs_unwritten : Bool → Option Text → ℕ
jobs_unwritten true timeout = 1
jobs_unwritten false None = most_jobs
jobs_unwritten false (Some text) = 1

-- In how many they may: 1 to 64 where the words write that, which goes with no strict evaluation.
abbrev pub jobs_by : Bool → Bool → ℕ → Result ℕ PlanFault
jobs_by true true jobs = Err plans.Strict
jobs_by true false jobs = Ok jobs
jobs_by false strict jobs = Err plans.Jobs

abbrev pub jobs_if : Option ℕ → Bool → Result ℕ PlanFault
jobs_if None strict = Err plans.Jobs
jobs_if (Some jobs) strict = jobs_by (nat_le 1 jobs && nat_le jobs most_jobs) strict jobs

abbrev pub jobs_asked : Option Text → Bool → Option Text → Result ℕ PlanFault
jobs_asked None strict timeout = Ok (jobs_unwritten strict timeout)
jobs_asked (Some text) strict timeout = jobs_if (number_written text) strict

-- The same of a check, where it goes with no acceptance.
abbrev pub check_jobs_by : Bool → Bool → ℕ → Result ℕ JobsFault
check_jobs_by true true jobs = Err jobs_fault.Accepting
check_jobs_by true false jobs = Ok jobs
check_jobs_by false accept jobs = Err jobs_fault.Number

abbrev pub check_jobs_if : Option ℕ → Bool → Result ℕ JobsFault
check_jobs_if None accept = Err jobs_fault.Number
check_jobs_if (Some jobs) accept = check_jobs_by (nat_le 1 jobs && nat_le jobs most_jobs) accept jobs

abbrev pub check_jobs_asked : Option Text → Bool → Option Text → Result ℕ JobsFault
check_jobs_asked None accept timeout = Ok (jobs_unwritten accept timeout)
check_jobs_asked (Some text) accept timeout = check_jobs_if (number_written text) accept

-- whether the words of `check` name several worksheets
abbrev pub are_several : List Text → Bool
are_several paths = nat_lt 1 (length paths)

-- Why several aren't checked as it is asked for, if it isn't so: their reports are in words alone, no answer of them is accepted, and no fields
-- are left out or compared by numbers, which are another worksheet's too.
abbrev pub numbers_of_several : Option Text → Option Text → Option SeveralFault
numbers_of_several None None = None
numbers_of_several None (Some ids) = Some several_fault.Compared
numbers_of_several (Some ids) compared = Some several_fault.LeftOut

abbrev pub several_refused : ReportFormat → Option Text → Option Text → Option SeveralFault
several_refused format.Text left_out compared = numbers_of_several left_out compared
several_refused format.Whole left_out compared = numbers_of_several left_out compared
several_refused format.Tap left_out compared = Some several_fault.Format
several_refused format.Junit left_out compared = Some several_fault.Format
several_refused format.Json left_out compared = Some several_fault.Format
several_refused format.Accepting left_out compared = Some several_fault.Accepting

-- The time that a field may take, and in how many sessions fields wait at a time.
pub record CheckBounds : Type 0 where
  pub limit : Option ℕ
  pub jobs : ℕ

abbrev pub check_bounds : Option ℕ → ℕ → CheckBounds
check_bounds limit jobs = record { limit = limit; jobs = jobs }

-- What a check is asked for, with so many sessions side by side.
pub record CheckPlan : Type 0 where
  pub request : Request
  pub jobs : ℕ

abbrev pub check_plan : Request → ℕ → CheckPlan
check_plan request jobs = record { request = request; jobs = jobs }

-- the same, as functions are given it
abbrev pub plan_of : CheckSetup → CheckPlan
plan_of beside = check_plan beside.manner.request.now beside.jobs

-- the numbers that words write, where each of them writes one
abbrev pub with_id : Option ℕ → Option (List ℕ) → Option (List ℕ)
with_id None others = None
with_id (Some id) others = option_map (λ ids. id ∷ ids) others

abbrev pub numbers_in : List Text → Option (List ℕ)
numbers_in [] = Some []
numbers_in (word ∷ words) = with_id (number_written word) (numbers_in words)

-- the fields with these numbers, where they are numbers
abbrev pub which_named : Option (List ℕ) → Result Which PlanFault
which_named None = Err plans.Id
which_named (Some ids) = Ok (which.Named ids)

-- those that are named; all, where none is
abbrev pub named_asked : List Text → Result Which PlanFault
named_asked [] = Ok which.All
named_asked (word ∷ words) = which_named (numbers_in (word ∷ words))

-- the field with this number and those after it, where it is a number
abbrev pub which_from : Option ℕ → Result Which PlanFault
which_from None = Err plans.Id
which_from (Some id) = Ok (which.From id)

-- a number to begin with goes with no others
abbrev pub from_asked : Text → List Text → Result Which PlanFault
from_asked from [] = which_from (number_written from)
from_asked from (word ∷ words) = Err plans.Both

-- Which fields are asked for, by the number to begin with, where there is one, and the numbers that are named.
abbrev pub which_asked : Option Text → List Text → Result Which PlanFault
which_asked None words = named_asked words
which_asked (Some from) words = from_asked from words

-- whether it stops where something goes wrong
abbrev pub stops_early : EvalView → Bool
stops_early words = words.strict || words.stop_at_error

-- these name fields
abbrev pub are_some : List Text → Bool
are_some [] = false
are_some (word ∷ words) = true

-- they choose fields by something else than `--changed`
abbrev pub chooses_fields : EvalView → Bool
chooses_fields words = words.unanswered || is_some words.from || are_some words.ids

-- which fields keep what they show, by whether those of sessions that aren't changed do, and those that show an answer
abbrev pub spared_by : Bool → Bool → Spared
spared_by true unanswered = spared.Unchanged
spared_by false true = spared.Answered
spared_by false false = spared.Nothing

-- Which of those that are asked for keep what they show. `--changed` goes with no other choice.
abbrev pub spared_asked : EvalView → Result Spared PlanFault
spared_asked words = cond (words.changed && chooses_fields words) (Err plans.Changed) (Ok (spared_by words.changed words.unanswered))

-- The words of `eval` ask for this.
pub record AsksPlan (words : EvalView) (plan : Plan) : Type 0 where
  pub which : which_asked words.from words.ids ≡ Ok plan.which
  pub spared : spared_asked words ≡ Ok plan.spared
  pub strict : plan.strict ≡ stops_early words
  pub at_errors : plan.at_errors ≡ words.stop_at_error
  pub limit : limit_asked words.timeout ≡ Some plan.limit
  pub keep_going : plan.keep_going ≡ words.keep_going
  pub jobs : jobs_asked words.jobs (stops_early words) words.timeout ≡ Ok plan.jobs

-- they name a time that a field may take, or none
abbrev pub NamesTime : EvalView → Type 0
NamesTime words = (limit : Option ℕ) × (limit_asked words.timeout ≡ Some limit)

-- and a number of sessions with it, or none
abbrev pub NamesJobs : EvalView → Type 0
NamesJobs words = NamesTime words × ((jobs : ℕ) × (jobs_asked words.jobs (stops_early words) words.timeout ≡ Ok jobs))

-- and which fields keep what they show
abbrev pub NamesSpared : EvalView → Type 0
NamesSpared words = NamesJobs words × ((spared : Spared) × (spared_asked words ≡ Ok spared))

-- They ask for nothing that there is, for this reason, of which the time is the first, how many sessions the next, and then what `--changed` goes
-- with; or there was no memory.
abbrev pub AsksNoPlan : EvalView → PlanFault → Type 0
AsksNoPlan words plans.Seconds = limit_asked words.timeout ≡ None
AsksNoPlan words plans.Jobs = NamesTime words × (jobs_asked words.jobs (stops_early words) words.timeout ≡ Err plans.Jobs)
AsksNoPlan words plans.Strict = NamesTime words × (jobs_asked words.jobs (stops_early words) words.timeout ≡ Err plans.Strict)
AsksNoPlan words plans.Changed = NamesJobs words × (spared_asked words ≡ Err plans.Changed)
AsksNoPlan words plans.Id = NamesSpared words × (which_asked words.from words.ids ≡ Err plans.Id)
AsksNoPlan words plans.Both = NamesSpared words × (which_asked words.from words.ids ≡ Err plans.Both)
AsksNoPlan words plans.OutOfMemory = Unit {0}
