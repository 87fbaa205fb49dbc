-- One host, from its opening to a crash: what the contracts of its calls say together. (docs/dev/HOST.md.)
use Rattle.std.specs.Prelude.{List, [], ◌∷◌, ◌++◌, ℕ, Result, Ok, IfOk, IfErr}
use Rattle.disk_model.specs.Disk.{Image}
use Rattle.worksheet.specs.declared.op.Op.{Op}
use Rattle.worksheet.specs.Ops.{sheet_of}
use Rattle.worksheet.specs.Checks.{Allowed}
use Rattle.recovery.specs.Sheets.{IsSheetImage}
use Rattle.session_engine.specs.Host.{EndsAt, HostView, IsHost, Took}
use Rattle.session_engine.specs.Faults.{Failed}
use Rattle.host_events.specs.declared.event.Event.{Event}
use Rattle.host_events.specs.declared.outcome.HostFault.{HostFault}
use Rattle.host_events.specs.declared.outcome.Outcome.{Outcome}
use Rattle.session_engine.specs.World.{World, world_at_opening}
use Rattle.host_laws.specs.Turns.{CrashesAreTurns}

-- One call of `step`, as its contract has it: the event, the host before it, what was returned, and the host after it.
abbrev pub StepMeets : Event → HostView → Result Outcome HostFault → HostView → Type 0
StepMeets e old answer new = (w : World) → IsHost old w → IfOk answer (Took w e old new) × IfErr answer (Failed w e old new)

-- The host was given these events by one step each, and they returned these outcomes.
pub data TookOneByOne : HostView → List Event → List Outcome → HostView → Type 0 where
  no_event : {h : HostView} → TookOneByOne h [] [] h
  one_more : {h mid new : HostView} {e : Event} {o : Outcome} {events : List Event} {reported : List Outcome}
      → TookOneByOne h events reported mid → StepMeets e mid (Ok o) new → TookOneByOne h (events ++ e ∷ []) (reported ++ o ∷ []) new

-- A host as `open` returns it: it stands for a worksheet of which the disk had an image.
pub record JustOpened (room : ℕ) (before : Image) (found : List Op) (host : HostView) : Type 0 where
  pub allowed : Allowed found
  pub image : IsSheetImage (sheet_of found) before
  pub ends : EndsAt before host.store.end
  pub stands : IsHost host (world_at_opening found room host.store.end)

-- A host was opened, and given events by one step each. A crash after the last of them leaves the worksheet after a prefix of the events that
-- has each of them, since each was acknowledged; and so does a crash at any moment of one step more, whatever that answers.
abbrev pub StepsLeavePrefixes : Type 0
StepsLeavePrefixes = (room : ℕ) (before : Image) (found : List Op) (opened : HostView) → JustOpened room before found opened
    → (events : List Event) (reported : List Outcome) (old : HostView) → TookOneByOne opened events reported old
    → CrashesAreTurns room before found (record { events = events; reported = reported }) old.store.disk old.store.disk
    × ((e : Event) (answer : Result Outcome HostFault) (new : HostView) → StepMeets e old answer new
    → CrashesAreTurns room before found (record { events = events ++ e ∷ []; reported = reported }) old.store.disk new.store.disk)
