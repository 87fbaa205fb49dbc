-- Where an agenda of fields stands.
use Rattle.std.specs.Prelude.{ℕ, ◌+◌, ◌-◌, Bool, true, false, List, [], ◌∷◌, Option, Some, None, get_or, length}
use Rattle.worksheet.specs.Checks.{field_in}
use Rattle.worksheet.specs.declared.field.Field.{Field}
use Rattle.child_calls.specs.declared.seat.Seat.{Seat}
use Rattle.arrivals.specs.declared.sources.Woken.{Woken}
use Rattle.arrivals.specs.declared.sources.Woken.TheVariants as woken
use Rattle.live.specs.declared.holding.Hold.{Hold}
use Rattle.live.specs.Saying.{is_held, seconds_from}
use Rattle.live.specs.declared.holding.Hold.TheVariants as hold
use Rattle.evaluation.specs.Beside.{first_by}
use Rattle.evaluation.specs.Evaluation.{not_begun}
use Rattle.evaluation.specs.Lasts.{after_asking}
use Rattle.evaluation.specs.declared.lasts.Last.{Last}
use Rattle.evaluation.specs.declared.plan.Plan.{Plan}
use Rattle.evaluation.specs.declared.plan.Stand.{Stand}
use Rattle.field_agenda.specs.declared.by_fields.ByFields.{ByFields}
use Rattle.field_agenda.specs.declared.stage.Stage.{Stage}
use Rattle.field_agenda.specs.declared.stage.Stage.TheVariants as stage
use Rattle.field_agenda.specs.declared.stage.FieldDoing.{FieldDoing}
use Rattle.field_agenda.specs.declared.stage.FieldDoing.TheVariants as doing

-- before it looked at the worksheet
abbrev pub first_fields : {P : Type 0} → Plan → P → ByFields P
first_fields plan programs = record { programs = programs; plan = plan; stage = stage.New; ids = []; stand = not_begun; doing = doing.Nothing; due = None }

-- the life whose turn it is, by what a watch returned
abbrev pub life_due : Option Woken → Option Seat
life_due None = None
life_due (Some (woken.Life seat)) = Some seat
life_due (Some woken.Input) = None
life_due (Some woken.TimeOver) = None

-- The wait for fields that were asked where the clock reads this.
abbrev pub limit_begun : Option ℕ → ℕ → Hold
limit_begun None now = hold.Wait
limit_begun (Some seconds) now = hold.Until (seconds_from now seconds)

-- which field of each session was asked last, where these were asked after those
abbrev pub lasts_after : List Last → List Field → List ℕ → List Last
lasts_after lasts fields [] = lasts
lasts_after lasts fields (id ∷ ids) = lasts_after (after_asking lasts (field_in fields id)) fields ids

-- the last of these numbers, or this one where there is none
abbrev pub last_of_group : List ℕ → ℕ → ℕ
last_of_group group other = get_or group (length group - 1) other

-- These fields are asked, from this place on. What waits then is known when they were.
abbrev pub asked_together : Stand → ℕ → List Field → List ℕ → Stand
asked_together s k fields group = record {
  taken = k + length group;
  first = first_by (is_held s.held) s.first k;
  field = last_of_group group s.field;
  held = s.held;
  warned = false;
  at_once = s.at_once;
  asked = s.asked + length group;
  overs = s.overs;
  lasts = lasts_after s.lasts fields group;
}

-- the interpreter is interrupted of the field that is the nth of those that are to be evaluated
abbrev pub warned_from : Stand → ℕ → Stand
warned_from s n = record s { first = n; warned = true; overs = s.overs + 1 }

-- this wait goes on, and this is so of the fields that were asked last
abbrev pub waiting_so : Stand → Hold → Bool → Stand
waiting_so s held at_once = record s { held = held; at_once = at_once }

-- these fields are evaluated, or none is
abbrev pub found : {P : Type 0} → ByFields P → List ℕ → Stage → ByFields P
found a ids how = record a { ids = ids; stage = how }

-- what a watch returned is heeded
abbrev pub seen_due : {P : Type 0} → ByFields P → ByFields P
seen_due a = record a { due = None }

-- this is done now, where it stands so
abbrev pub does_at : {P : Type 0} → ByFields P → FieldDoing → Stand → ByFields P
does_at a what stand = record a { doing = what; stand = stand }

abbrev pub does_now : {P : Type 0} → ByFields P → FieldDoing → ByFields P
does_now a what = record a { doing = what }

abbrev pub at_stage : {P : Type 0} → ByFields P → Stage → ByFields P
at_stage a how = record a { stage = how }
