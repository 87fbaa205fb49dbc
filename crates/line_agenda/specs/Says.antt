-- What an agenda of lines says is next. (docs/use/SCRIPT.md, "Live".)
use Rattle.std.specs.Prelude.{◌≡◌, ℕ, ◌+◌, ◌^◌, ◌≤◌, ◌&&◌, Bool, true, List, [], ◌∷◌, Some, Result, Ok, Err}
use Rattle.session_engine.specs.World.{World}
use Rattle.child_calls.specs.declared.seat.Seat.{Seat}
use Rattle.child_edge.specs.Seats.{waits}
use Rattle.arrivals.specs.Held.{Readiness}
use Rattle.arrivals.specs.declared.sources.Woken.{Woken}
use Rattle.offline_programs.specs.declared.fault.RunFault.{RunFault}
use Rattle.offline_programs.specs.declared.fault.RunFault.TheVariants as fault
use Rattle.driver.specs.Steps.{most_together}
use Rattle.live.specs.declared.holding.Hold.TheVariants as hold
use Rattle.live.specs.Saying.{stop_if}
use Rattle.live.specs.Arrivals.{input_at, patience_at}
use Rattle.driver.specs.declared.action.Action.{Action}
use Rattle.driver.specs.declared.action.Action.TheVariants as action
use Rattle.line_agenda.specs.declared.doing.Doing.TheVariants as doing
use Rattle.line_agenda.specs.declared.matter.Matter.{Matter}
use Rattle.line_agenda.specs.declared.matter.Matter.TheVariants as matter
use Rattle.line_agenda.specs.Waits.{warned}
use Rattle.line_agenda.specs.Matters.{IsMatter, others}
use Rattle.line_agenda.specs.LinesAt.{LinesAt, doing_now, heeded, holding, warning}
use Rattle.line_agenda.specs.Taking.{TakesInput}

-- what the next action is about
abbrev pub IsAbout : LinesAt → ℕ → Matter → Type 0
IsAbout a now m = IsMatter a.manner.lines_first a.held a.due now m

-- The time of a line is over: each life in which an item waits is interrupted, one after the other.
pub data SaysLimit (a : LinesAt) (w : World) (now : ℕ) (r : Result Action RunFault) (b : LinesAt) : Type 0 where
  first_of : (seat : Seat) (rest : List Seat) → waits w ≡ seat ∷ rest → r ≡ Ok (action.Interrupt seat.name) → b ≡ warning a seat rest → SaysLimit a w now r b
  of_none : waits w ≡ [] → r ≡ Ok action.Nothing → b ≡ holding a (stop_if (a.manner.strict && true) (warned now)) → SaysLimit a w now r b
  -- there was no memory for their list
  unlisted : r ≡ Err fault.OutOfMemory → b ≡ a → SaysLimit a w now r b

-- What is asked for next, by what it is about. The sources are watched for the input where no wait holds it back, and as long as the wait's time
-- lasts.
abbrev pub SaysMatter : LinesAt → World → ℕ → Matter → Result Action RunFault → LinesAt → Type 0
SaysMatter a w now matter.Untimely r b = (r ≡ Ok action.Nothing) × (b ≡ a)
SaysMatter a w now matter.Watch r b =
    (there : Bool) × Readiness a.buffer there × (r ≡ Ok (action.Watch (input_at a.held there) (patience_at a.held now))) × (b ≡ a)
SaysMatter a w now matter.Input r b = TakesInput a w now r b
SaysMatter a w now (matter.Life seat) r b = (r ≡ Ok (action.Hear seat (others a.manner.strict))) × (b ≡ doing_now a doing.Life)
SaysMatter a w now matter.Limit r b = SaysLimit a w now r b
SaysMatter a w now matter.Stall r b = (r ≡ Ok action.Stall) × (b ≡ doing_now a doing.Stall)

-- What is asked for next.
pub data LinesSay (a : LinesAt) (w : World) (now : ℕ) (r : Result Action RunFault) (b : LinesAt) : Type 0 where
  -- in a strict input a line went wrong
  stopped : a.held ≡ hold.Stopped → r ≡ Ok action.End → b ≡ a → LinesSay a w now r b
  -- so many were taken that those of a group more couldn't be counted
  uncounted : 2 ^ 64 ≤ a.number + most_together + 1 → r ≡ Err fault.InputTooLong → b ≡ a → LinesSay a w now r b
  -- the next life whose time is over
  warns : (seat : Seat) (rest : List Seat) → a.late ≡ seat ∷ rest → r ≡ Ok (action.Interrupt seat.name) → b ≡ warning a seat rest → LinesSay a w now r b
  says : (m : Matter) → (a.held ≡ hold.Stopped → ⊥) → a.late ≡ [] → IsAbout a now m → SaysMatter (heeded a) w now m r b → LinesSay a w now r b

-- Whose turn it is was returned.
abbrev pub LinesWoken : LinesAt → Woken → LinesAt → Type 0
LinesWoken a reported b = b ≡ record a { due = Some reported }
