-- One host that is given events by steps, by groups and as a whole, as programs give them: what the contracts of its calls say together. (docs/dev/HOST.md.)
use Rattle.std.specs.Prelude.{◌⊎◌, ℕ, List, [], ◌∷◌, ◌++◌, length, take, Result, Ok, Err}
use Rattle.std.specs.declared.alloc.Global.{Global}
use Rattle.std.specs.declared.vec.Vec.{Vec}
use Rattle.disk_model.specs.Disk.{Image}
use Rattle.worksheet.specs.declared.op.Op.{Op}
use Rattle.host_events.specs.declared.event.Event.{Event}
use Rattle.host_events.specs.declared.outcome.HostFault.{HostFault}
use Rattle.host_events.specs.declared.outcome.Outcome.{Outcome}
use Rattle.session_engine.specs.declared.play.GroupFault.{GroupFault}
use Rattle.session_engine.specs.declared.play.GroupFault.TheVariants as halt
use Rattle.session_engine.specs.declared.whole.Whole.{Whole}
use Rattle.session_engine.specs.declared.whole.Whole.TheVariants as whole
use Rattle.session_engine.specs.declared.whole.WholeFault.{WholeFault}
use Rattle.session_engine.specs.declared.whole.WholeFault.TheVariants as lacks
use Rattle.session_engine.specs.declared.joining.Joint.{Joint}
use Rattle.session_engine.specs.declared.joining.JoinFault.{JoinFault}
use Rattle.session_engine.specs.World.{World, world_at_opening}
use Rattle.session_engine.specs.Does.{Runs}
use Rattle.session_engine.specs.Groups.{TookGroup}
use Rattle.session_engine.specs.Host.{HostView, IsHost}
use Rattle.host_laws.specs.Turns.{CrashesAreTurns}
use Rattle.host_laws.specs.OneHost.{JustOpened, StepMeets}
use Rattle.host_laws.specs.Together.{GroupMeets, JoinedMeets, UpToMeets, WholeMeets, joint_returned, returned, whole_returned}

-- The call took no event and gave all back: there was no memory, or a checkpoint was among them.
abbrev pub GaveBack : Result (Vec Outcome Global) GroupFault → Type 0
GaveBack (Ok outcomes) = ⊥
GaveBack (Err (halt.Checkpoint back)) = Unit {0}
GaveBack (Err (halt.NoRoom back)) = Unit {0}
GaveBack (Err (halt.Stopped outcomes fault)) = ⊥
GaveBack (Err halt.Disk) = ⊥

-- No command was taken: one would be refused, or there was no memory.
abbrev pub TookNone : Result Whole WholeFault → Type 0
TookNone (Ok (whole.Taken outcomes)) = ⊥
TookNone (Ok (whole.Refused first last)) = Unit {0}
TookNone (Err lacks.NoRoom) = Unit {0}
TookNone (Err lacks.Closed) = ⊥
TookNone (Err lacks.Disk) = ⊥

-- The host, which began in this world, took these events, each by a step or in a group, and they returned these outcomes.
pub data TookByCalls (start : World) : HostView → List Event → List Outcome → HostView → Type 0 where
  no_call : {h : HostView} → TookByCalls start h [] [] h
  and_step : {h mid new : HostView} {e : Event} {o : Outcome} {events : List Event} {reported : List Outcome}
      → TookByCalls start h events reported mid → StepMeets e mid (Ok o) new → TookByCalls start h (events ++ e ∷ []) (reported ++ o ∷ []) new
  and_group : {h mid new : HostView} {group : List Event} {outcomes : Vec Outcome Global} {events : List Event} {reported : List Outcome}
      → TookByCalls start h events reported mid → GroupMeets group mid (Ok outcomes) new → TookByCalls start h (events ++ group) (reported ++ outcomes.items) new
  -- of one that stops at a refusal those that have outcomes
  and_group_up_to : {h mid new : HostView} {group : List Event} {outcomes : Vec Outcome Global} {events : List Event} {reported : List Outcome}
      → TookByCalls start h events reported mid → UpToMeets group mid (Ok outcomes) new → TookByCalls start h (events ++ take (length outcomes.items) group) (reported ++ outcomes.items) new
  -- none of a group that was given back
  and_given_back : {h mid new : HostView} {group : List Event} {answer : Result (Vec Outcome Global) GroupFault} {events : List Event} {reported : List Outcome}
      → TookByCalls start h events reported mid → GroupMeets group mid answer new ⊎ UpToMeets group mid answer new → GaveBack answer → TookByCalls start h events reported new
  -- commands that were taken as a whole, and none of those that weren't
  and_whole : {h mid new : HostView} {edits : List Event} {outcomes : Vec Outcome Global} {events : List Event} {reported : List Outcome}
      → TookByCalls start h events reported mid → WholeMeets edits mid (Ok (whole.Taken outcomes)) new → TookByCalls start h (events ++ edits) (reported ++ outcomes.items) new
  and_none : {h mid new : HostView} {edits : List Event} {answer : Result Whole WholeFault} {events : List Event} {reported : List Outcome}
      → TookByCalls start h events reported mid → WholeMeets edits mid answer new → TookNone answer → TookByCalls start h events reported new
  -- events with those that joined them, as the contract of `play_joining` has it of the world to which the calls before it led
  and_joined : {h mid new : HostView} {w : World} {all : List Event} {outcomes : List Outcome} {events : List Event} {reported : List Outcome}
      → TookByCalls start h events reported mid → Runs start events reported w → IsHost mid w → TookGroup w all outcomes mid new → TookByCalls start h (events ++ all) (reported ++ outcomes) new

-- A host was opened, and given events by steps and groups. A crash after the last call leaves the worksheet after a prefix of the events that
-- has each of them, since each was acknowledged; and so does a crash at any moment of one step or one group more, whatever that answers. One after a
-- group, which a fault or a refusal may have stopped, leaves also each event whose outcome the group returned. Commands that are taken as a
-- whole are such a group, and so are events that others join.
abbrev pub CallsLeavePrefixes : Type 0
CallsLeavePrefixes = (room : ℕ) (before : Image) (found : List Op) (opened : HostView) → JustOpened room before found opened
    → (events : List Event) (reported : List Outcome) (old : HostView) → TookByCalls (world_at_opening found room opened.store.end) opened events reported old
    → CrashesAreTurns room before found (record { events = events; reported = reported }) old.store.disk old.store.disk
    × ((e : Event) (answer : Result Outcome HostFault) (new : HostView) → StepMeets e old answer new
    → CrashesAreTurns room before found (record { events = events ++ e ∷ []; reported = reported }) old.store.disk new.store.disk)
    × ((group : List Event) (answer : Result (Vec Outcome Global) GroupFault) (new : HostView) → GroupMeets group old answer new
    → CrashesAreTurns room before found (record { events = events ++ group; reported = reported }) old.store.disk new.store.disk
    × CrashesAreTurns room before found (record { events = events ++ group; reported = reported ++ returned answer }) new.store.disk new.store.disk)
    × ((group : List Event) (answer : Result (Vec Outcome Global) GroupFault) (new : HostView) → UpToMeets group old answer new
    → CrashesAreTurns room before found (record { events = events ++ group; reported = reported }) old.store.disk new.store.disk
    × CrashesAreTurns room before found (record { events = events ++ group; reported = reported ++ returned answer }) new.store.disk new.store.disk)
    × ((edits : List Event) (answer : Result Whole WholeFault) (new : HostView) → WholeMeets edits old answer new
    → CrashesAreTurns room before found (record { events = events ++ edits; reported = reported }) old.store.disk new.store.disk
    × CrashesAreTurns room before found (record { events = events ++ edits; reported = reported ++ whole_returned answer }) new.store.disk new.store.disk)
    × ((w : World) → Runs (world_at_opening found room opened.store.end) events reported w → IsHost old w
    → (all : List Event) (answer : Result Joint JoinFault) (new : HostView) → JoinedMeets w all old answer new
    → CrashesAreTurns room before found (record { events = events ++ all; reported = reported }) old.store.disk new.store.disk
    × CrashesAreTurns room before found (record { events = events ++ all; reported = reported ++ joint_returned answer }) new.store.disk new.store.disk)
