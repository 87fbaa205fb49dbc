-- Laws of all runs.
use Rattle.std.specs.Prelude.{◌≡◌, ℕ, true, List, ◌∷◌, ◌++◌, IfErr, Result, Err}
use Rattle.std.specs.List.{flat_map}
use Rattle.disk_model.specs.Disk.{DiskView}
use Rattle.host_events.specs.declared.event.Event.{Event}
use Rattle.session_engine.specs.Does.{Runs}
use Rattle.child_edge.specs.Faithful.{Entry}
use Rattle.child_edge.specs.Kept.{HoldsSheet}
use Rattle.child_edge.specs.Edge.{Stopped}
use Rattle.child_edge.specs.Together.{LostTogether}
use Rattle.child_edge.specs.Moments.{LeavesFronts, LeavesFrontsUpTo, events_of, outcomes_of}
use Rattle.host_events.specs.declared.outcome.HostFault.{HostFault}
use Rattle.session_engine.specs.Crash.{Moments}
use Rattle.session_engine.specs.Host.{HostView}
use Rattle.session_engine.specs.World.{World}
use Rattle.offline_programs.specs.declared.fault.RunFault.{RunFault}
use Rattle.driver.specs.Reports.{Report, printed_text}
use Rattle.driver.specs.Items.{Item, RunStep, entries_of, printed}
use Rattle.driver.specs.Place.{RunPlace, Rules, Tries}
use Rattle.driver.specs.Steps.{Run}
use Rattle.driver.specs.Over.{Over, ProgramParts}
use Rattle.driver.specs.TrueFaults.{IsTrueFault, IsTrueOf}

-- the entries of the trace of a run
abbrev pub trace : List RunStep → List Entry
trace steps = flat_map entries_of steps

-- The first steps of a run are a run, and the others another from where those led.
pub record CutAt {A C K : Type 0} (R : Rules A C K) (p : RunPlace A C K) (todo : List Item) (first last : List RunStep) (left : List Item) (q : RunPlace A C K) : Type 0 where
  pub there : RunPlace A C K
  pub then_to_do : List Item
  pub ran : Run R p todo first then_to_do there
  pub goes_on : Run R there then_to_do last left q

abbrev pub RunsAreCutAnywhere : {A C K : Type 0} → Rules A C K → Type 0
RunsAreCutAnywhere {A = A} {C = C} {K = K} R = (p q : RunPlace A C K) (todo left : List Item) (first last : List RunStep)
    → Run R p todo (first ++ last) left q → CutAt R p todo first last left q

-- This was printed where the steps before it had led. Their events had led to that world, and the disk held its worksheet at every image.
pub record PrintedAfter {A C K : Type 0} (R : Rules A C K) (p : RunPlace A C K) (todo : List Item) (before : List RunStep) (s : Report) : Type 0 where
  pub there : RunPlace A C K
  pub to_do : List Item
  pub ran : Run R p todo before to_do there
  pub runs : Runs p.world (events_of (trace before)) (outcomes_of (trace before)) there.world
  pub holds : HoldsSheet there.world there.disk
  pub sink : K
  pub tries : Tries R.sink there.sink there.disk (printed_text R.sink.voice there.world s) true sink

-- A reply follows its sync: what is printed of events is printed when all that they gave is durable.
abbrev pub RepliesFollowSyncs : {A C K : Type 0} → Rules A C K → Type 0
RepliesFollowSyncs {A = A} {C = C} {K = K} R = (p q : RunPlace A C K) (todo left : List Item) (before after : List RunStep) (s : Report)
    → HoldsSheet p.world p.disk → Run R p todo (before ++ printed s ∷ after) left q → PrintedAfter R p todo before s

-- What a run left of the disk at every moment, from its first place to its last: each image was one of the worksheet after some of the first events of
-- its trace. Where it broke off at an event, that had this fault; where the disk failed at a gate, an image may be one of the worksheet after events
-- of which nothing was printed.
pub data LeavesFrontsOf {A C K : Type 0} (p : RunPlace A C K) (entries : List Entry) (q : RunPlace A C K) : Type 0 where
  all_printed : LeavesFronts p.world entries p.disk q.disk → LeavesFrontsOf p entries q
  broke_at : (d : DiskView) (h : HostView) (e : Event) (f : HostFault) → Stopped d h q.world e f → q.disk ≡ h.store.disk
      → LeavesFrontsUpTo p.world entries e f p.disk q.disk → LeavesFrontsOf p entries q
  lost_at : (events : List Event) (d : DiskView) (h : HostView) (l : LostTogether q.world events d h) → q.disk ≡ h.store.disk
      → Moments p.world (events_of entries ++ l.taken) (outcomes_of entries ++ l.withheld) p.disk q.disk → LeavesFrontsOf p entries q

abbrev pub RunsLeaveFronts : {A C K : Type 0} → Rules A C K → Type 0
RunsLeaveFronts {A = A} {C = C} {K = K} R = (p q : RunPlace A C K) (todo left : List Item) (steps : List RunStep)
    → HoldsSheet p.world p.disk → Run R p todo steps left q → LeavesFrontsOf p (trace steps) q

-- The events of a run's trace led from its first world to its last one.
abbrev pub RunsLead : {A C K : Type 0} → Rules A C K → Type 0
RunsLead {A = A} {C = C} {K = K} R = (p q : RunPlace A C K) (todo left : List Item) (steps : List RunStep)
    → Run R p todo steps left q → Runs p.world (events_of (trace steps)) (outcomes_of (trace steps)) q.world

-- Why an agenda can't say what is next is true of every disk: it is none of the disk's.
abbrev pub OwnFaults : {A C K : Type 0} → Rules A C K → Type 0
OwnFaults {A = A} R = (a : A) (w : World) (n : ℕ) (why : RunFault) (b : A) → R.agenda.says a w n (Err why) b → (d : DiskView) → IsTrueFault why d d

-- A fault of a program over a disk is true of the disk, where those of its agenda are.
abbrev pub FaultsAreTrue : {A C K : Type 0} → Rules A C K → Type 0
FaultsAreTrue {A = A} {C = C} {K = K} R = OwnFaults R → (first last : ProgramParts A C K) (answer : Result (Unit {0}) RunFault)
    → Over R first last answer → IfErr answer (λ why. IsTrueOf why first.disk last.disk)
