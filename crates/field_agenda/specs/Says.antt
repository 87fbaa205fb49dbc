-- What an agenda of fields says is next. (docs/use/EVAL.md.)
use Rattle.std.specs.Prelude.{◌≡◌, ◌≢◌, ◌⊎◌, ℕ, ◌+◌, ◌^◌, ◌≤◌, ◌<◌, true, false, List, Option, Some, None, Result, Ok, Err, length, map}
use Rattle.worksheet.specs.Checks.{field_in}
use Rattle.worksheet.specs.declared.field.Field.{Field}
use Rattle.host_events.specs.declared.command.Command.TheVariants as command
use Rattle.host_events.specs.declared.event.Event.{Event}
use Rattle.host_events.specs.declared.event.Event.TheVariants as event
use Rattle.session_engine.specs.World.{World, sheet_in}
use Rattle.child_calls.specs.declared.seat.Seat.{Seat}
use Rattle.child_edge.specs.declared.interrupting.Interrupted.TheVariants as interrupted
use Rattle.arrivals.specs.declared.sources.Input.TheVariants as input
use Rattle.arrivals.specs.declared.sources.Woken.{Woken}
use Rattle.offline_programs.specs.declared.fault.RunFault.{RunFault}
use Rattle.offline_programs.specs.declared.fault.RunFault.TheVariants as fault
use Rattle.tellings.specs.declared.note.Counts.{Counts}
use Rattle.tellings.specs.declared.note.Note.TheVariants as note
use Rattle.live.specs.declared.holding.Hold.TheVariants as hold
use Rattle.live.specs.Arrivals.{IsOver, patience_at}
use Rattle.driver.specs.Steps.{most_together}
use Rattle.driver.specs.declared.report.Show.TheVariants as show
use Rattle.driver.specs.declared.action.Action.{Action}
use Rattle.driver.specs.declared.action.Action.TheVariants as action
use Rattle.line_agenda.specs.Alone.{AsksLines}
use Rattle.line_agenda.specs.Matters.{others}
use Rattle.evaluation.specs.Beside.{IsFirstWaiting, IsLate, NoneJoins, NoneWaits, joins}
use Rattle.evaluation.specs.Meant.{EndsHere, IsAsked, evaluation_counts}
use Rattle.evaluation.specs.Programs.{Finds}
use Rattle.evaluation.specs.declared.plan.Stand.{Stand}
use Rattle.field_agenda.specs.declared.by_fields.ByFields.{ByFields}
use Rattle.field_agenda.specs.declared.stage.Stage.{Stage}
use Rattle.field_agenda.specs.declared.stage.Stage.TheVariants as stage
use Rattle.field_agenda.specs.declared.stage.FieldDoing.TheVariants as doing
use Rattle.field_agenda.specs.Looks.{LooksFor}
use Rattle.field_agenda.specs.Standing.{asked_together, at_stage, does_at, does_now, life_due, seen_due, warned_from}
use Rattle.field_agenda.specs.Together.{group_at}

-- the command that asks a field
abbrev pub asks_field : ℕ → Event
asks_field id = event.Command (command.Eval id)

-- The field at this place, with this number, may be asked here: it is the next one, and no item waits, or it joins those that wait.
abbrev pub MayBeAsked : {P : Type 0} → ByFields P → World → ℕ → ℕ → Type 0
MayBeAsked a w k id = IsAsked a.plan (sheet_in w).fields a.ids a.stand k id × ((a.stand.held ≡ hold.Free) ⊎ (joins a.plan w a.stand k id ≡ true))

-- the fields that are asked where this one is
abbrev pub asked_with : {P : Type 0} → ByFields P → World → ℕ → ℕ → List ℕ
asked_with a w k id = group_at a.plan w a.stand.lasts a.ids k id

-- It is asked, and so are those that go with it: all by one group of commands, in their order. Or there was no memory for that.
pub data AsksFrom {P : Type 0} (a : ByFields P) (w : World) (k id : ℕ) (r : Result Action RunFault) (b : ByFields P) : Type 0 where
  asked : (t : Action) → AsksLines (k + 1) (map asks_field (asked_with a w k id)) t → r ≡ Ok t
      → b ≡ does_at a doing.Ask (asked_together a.stand k (sheet_in w).fields (asked_with a w k id)) → AsksFrom a w k id r b
  unasked : r ≡ Err fault.OutOfMemory → b ≡ a → AsksFrom a w k id r b

-- It comes to its end here, after that field where a strict one stops: what it came to is printed. Or the worksheet has more fields than are counted.
pub data ComesToItsEnd {P : Type 0} (a : ByFields P) (w : World) (stopped : Option ℕ) (r : Result Action RunFault) (b : ByFields P) : Type 0 where
  ends_with : (counts : Counts) → counts ≡ evaluation_counts a.plan (length a.ids) (sheet_in w) a.stand → r ≡ Ok (action.Show (show.Note (note.Counted counts)))
      → b ≡ at_stage a (stage.Counted (record { stopped_after = stopped; counts = counts })) → ComesToItsEnd a w stopped r b
  too_many_fields : 2 ^ 31 ≤ length (sheet_in w).fields → r ≡ Err fault.InputTooLong → b ≡ a → ComesToItsEnd a w stopped r b

-- The field that is the nth of those to be evaluated, with this number, is the one whose interpreter is interrupted now: the first whose time is over by
-- the clock, and then each other that waits.
abbrev pub IsLateNow : List ℕ → Stand → World → ℕ → ℕ → ℕ → Type 0
IsLateNow ids stand w now n id = ((stand.warned ≡ false) × IsOver stand.held now × IsLate w ids stand n id) ⊎ ((stand.warned ≡ true) × IsFirstWaiting w ids stand n id)

-- the interpreter of this field's session is interrupted; where there is no field any more, that is noted
abbrev pub interrupts_of : ℕ → Option Field → Action
interrupts_of id None = action.Show (show.Note (note.Over id interrupted.NoSession))
interrupts_of id (Some field) = action.Interrupt field.session

-- no interpreter is interrupted now
abbrev pub NoneLate : List ℕ → Stand → World → ℕ → Type 0
NoneLate ids stand w now = ((stand.warned ≡ false) × (IsOver stand.held now → ⊥)) ⊎ ((stand.warned ≡ true) × NoneWaits w ids stand)

-- What is next while it is no life's turn.
pub data GoesUnheard {P : Type 0} (a : ByFields P) (w : World) (now : ℕ) (r : Result Action RunFault) (b : ByFields P) : Type 0 where
  asks : (k id : ℕ) → MayBeAsked a w k id → AsksFrom a w k id r b → GoesUnheard a w now r b
  ends : (stopped : Option ℕ) → a.stand.held ≡ hold.Free → EndsHere a.plan (sheet_in w).fields a.ids a.stand stopped → ComesToItsEnd a w stopped r b → GoesUnheard a w now r b
  -- items wait, and no field joins them
  interrupts : (n id : ℕ) → a.stand.held ≢ hold.Free → NoneJoins a.plan w a.ids a.stand → IsLateNow a.ids a.stand w now n id → r ≡ Ok (interrupts_of id (field_in (sheet_in w).fields id))
      → b ≡ does_at a (doing.Over id) (warned_from a.stand n) → GoesUnheard a w now r b
  -- the two seconds after an interrupt are over by the clock
  stalls : a.stand.held ≢ hold.Free → NoneJoins a.plan w a.ids a.stand → NoneLate a.ids a.stand w now → IsOver a.stand.held now → r ≡ Ok action.Stall → b ≡ does_now a doing.Stall
      → GoesUnheard a w now r b
  watches : a.stand.held ≢ hold.Free → NoneJoins a.plan w a.ids a.stand → NoneLate a.ids a.stand w now → (IsOver a.stand.held now → ⊥)
      → r ≡ Ok (action.Watch input.HeldBack (patience_at a.stand.held now)) → b ≡ a → GoesUnheard a w now r b

-- so many fields were asked, or their time was over so often, that more couldn't be counted
abbrev pub IsUncounted : Stand → ℕ → Type 0
IsUncounted s all = (2 ^ 64 ≤ s.asked + most_together + 1) ⊎ (2 ^ 64 ≤ s.overs + 1) ⊎ (all < s.taken) ⊎ (2 ^ 31 ≤ all)

-- What is next while fields are asked. That a watch returned that a time is over isn't believed: the clock is read again.
pub data FieldsGoOn {P : Type 0} (a : ByFields P) (w : World) (now : ℕ) (r : Result Action RunFault) (b : ByFields P) : Type 0 where
  uncounted : IsUncounted a.stand (length a.ids) → r ≡ Err fault.InputTooLong → b ≡ a → FieldsGoOn a w now r b
  hears : (seat : Seat) → life_due a.due ≡ Some seat → r ≡ Ok (action.Hear seat (others a.plan.strict)) → b ≡ does_now (seen_due a) doing.Life → FieldsGoOn a w now r b
  goes_unheard : life_due a.due ≡ None → GoesUnheard (seen_due a) w now r b → FieldsGoOn a w now r b

-- What is asked for next, by how far it is.
abbrev pub SaysAt : {P : Type 0} → Stage → Finds → ByFields P → World → ℕ → Result Action RunFault → ByFields P → Type 0
SaysAt stage.New finds a w now r b = LooksFor finds a w r b
SaysAt stage.Going finds a w now r b = FieldsGoOn a w now r b
SaysAt (stage.Counted end) finds a w now r b = (r ≡ Ok action.End) × (b ≡ a)
SaysAt (stage.NoField id) finds a w now r b = (r ≡ Ok action.End) × (b ≡ a)
SaysAt (stage.NoProgram name) finds a w now r b = (r ≡ Ok action.End) × (b ≡ a)

abbrev pub FieldsSay : {P : Type 0} → (P → Finds) → ByFields P → World → ℕ → Result Action RunFault → ByFields P → Type 0
FieldsSay finds a w now r b = SaysAt a.stage (finds a.programs) a w now r b

-- Whose turn it is was returned.
abbrev pub FieldsWoken : {P : Type 0} → ByFields P → Woken → ByFields P → Type 0
FieldsWoken a reported b = b ≡ record a { due = Some reported }
