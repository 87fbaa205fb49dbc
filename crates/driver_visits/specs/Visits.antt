-- Whatever is driven over a disk is an invocation of the theorem, and what it had printed when it was cut off was durable.
-- (docs/trust/THEOREM.md; premises A1 to A7 in the README of crate `theorem`.)
use Rattle.std.specs.Prelude.{◌≡◌, IsTrue, List, [], ◌∷◌, ◌++◌, true, Result}
use Rattle.disk_model.specs.Disk.{LeavesOnly, Looks, bytes_on}
use Rattle.host_events.specs.declared.event.Event.{Event}
use Rattle.session_engine.specs.World.{world_at_opening}
use Rattle.host_laws.specs.Turns.{HostTurn}
use Rattle.child_edge.specs.Moments.{events_of, outcomes_of}
use Rattle.theorem.specs.Programs.{HasReported, Visit}
use Rattle.offline_programs.specs.declared.fault.RunFault.{RunFault}
use Rattle.driver.specs.Reports.{Report, printed_text}
use Rattle.driver.specs.Items.{Item, RunStep, ask, printed}
use Rattle.driver.specs.Place.{RunPlace, Rules, Tries}
use Rattle.driver.specs.Steps.{Run}
use Rattle.driver.specs.Laws.{trace}
use Rattle.driver.specs.Over.{ProgramParts, RanOver, first_place}
use Rattle.driver_visits.specs.Tried.{TriedLast}

-- the events of a run's trace, and these, of which nothing was reported
abbrev pub turn_of : List RunStep → List Event → HostTurn
turn_of steps unreported = record { events = events_of (trace steps) ++ unreported; reported = outcomes_of (trace steps) }

-- It is a visit: the opening changed no byte and left no image that is new, at its end all that is in its trace is durable, and of the events that it tried last
-- nothing was reported.
pub record EndsAsVisit {A C K : Type 0} (R : Rules A C K) (first last : ProgramParts A C K) (answer : Result (Unit {0}) RunFault) (it : RanOver R first last answer) : Type 0 where
  pub unreported : List Event
  pub visit : Visit (bytes_on first.disk) first.disk (turn_of it.steps unreported) last.disk
  pub looks : Looks first.disk.history visit.now.history
  pub tried : TriedLast R (first_place first it.opened) (ask ∷ []) it.steps unreported

-- Whatever is driven over a disk that keeps the model, by these rules, is a visit.
abbrev pub DrivenIsVisit : {A C K : Type 0} → (R : Rules A C K) → Type 0
DrivenIsVisit {A = A} {C = C} {K = K} R = (first last : ProgramParts A C K) (answer : Result (Unit {0}) RunFault) (it : RanOver R first last answer)
    → IsTrue first.disk.keeps_model → EndsAsVisit R first last answer it

-- It is a visit, and this was printed where these steps, the first of the run, had led: with that sink and on that disk. From the moment on at which its
-- text was tried each image that a crash may leave is one of the worksheet after some of the first events, with all those of the steps before. So they
-- were reported no earlier than they were durable.
pub record DurableAt {A C K : Type 0} (R : Rules A C K) (first last : ProgramParts A C K) (answer : Result (Unit {0}) RunFault) (it : RanOver R first last answer) (before : List RunStep) (r : Report) : Type 0 where
  pub unreported : List Event
  pub visit : Visit (bytes_on first.disk) first.disk (turn_of it.steps unreported) last.disk
  pub tried : TriedLast R (first_place first it.opened) (ask ∷ []) it.steps unreported
  pub there : RunPlace A C K
  pub to_do : List Item
  pub ran : Run R (first_place first it.opened) (ask ∷ []) before to_do there
  pub sink : K
  pub tries : Tries R.sink there.sink there.disk (printed_text R.sink.voice there.world r) true sink
  pub since : LeavesOnly (HasReported (world_at_opening visit.ops first.disk.room visit.end) (events_of (trace it.steps) ++ unreported) (outcomes_of (trace before))) there.disk.history last.disk.history

-- What was printed at a step of such a run was durable before: that step is one of it, after these and before those.
abbrev pub PrintedIsDurable : {A C K : Type 0} → (R : Rules A C K) → Type 0
PrintedIsDurable {A = A} {C = C} {K = K} R = (first last : ProgramParts A C K) (answer : Result (Unit {0}) RunFault) (it : RanOver R first last answer) (before after : List RunStep) (r : Report)
    → IsTrue first.disk.keeps_model → it.steps ≡ before ++ printed r ∷ after → DurableAt R first last answer it before r
