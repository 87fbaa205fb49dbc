-- Groups of events that one gate commits, as parts of turns: what a crash within such a play, or after it, leaves. (docs/dev/HOST.md.)
use Rattle.std.specs.Prelude.{◌≡◌, ℕ, List, [], ◌++◌, length, Result, Ok, Err, IfOk, IfErr}
use Rattle.std.specs.declared.alloc.Global.{Global}
use Rattle.std.specs.declared.vec.Vec.{Vec}
use Rattle.disk_model.specs.Disk.{Image, SameDisk}
use Rattle.worksheet.specs.declared.op.Op.{Op}
use Rattle.worksheet.specs.Ops.{sheet_of}
use Rattle.worksheet.specs.Checks.{Allowed}
use Rattle.recovery.specs.Sheets.{IsSheetImage}
use Rattle.host_events.specs.declared.event.Event.{Event}
use Rattle.host_events.specs.declared.outcome.Outcome.{Outcome}
use Rattle.session_engine.specs.declared.play.GroupFault.{GroupFault}
use Rattle.session_engine.specs.declared.play.GroupFault.TheVariants as halt
use Rattle.session_engine.specs.declared.joining.Joint.{Joint}
use Rattle.session_engine.specs.declared.joining.JoinFault.{JoinFault}
use Rattle.session_engine.specs.declared.joining.JoinFault.TheVariants as joins
use Rattle.session_engine.specs.World.{World, world_at_opening}
use Rattle.session_engine.specs.Does.{Runs}
use Rattle.session_engine.specs.Groups.{FailedGroup, HaltsGroup, HaltsUpTo, StoppedGroup, TookGroup, TookUpTo}
use Rattle.session_engine.specs.Host.{EndsAt, HostView, IsHost}
use Rattle.session_engine.specs.Whole.{HaltsWhole, MadeWhole}
use Rattle.session_engine.specs.declared.whole.Whole.{Whole}
use Rattle.session_engine.specs.declared.whole.Whole.TheVariants as whole
use Rattle.session_engine.specs.declared.whole.WholeFault.{WholeFault}
use Rattle.host_laws.specs.Turns.{CrashesAreTurns}

-- One call of `play_group`, as its contract has it, between two moments at which nothing is owed to the host's disk: the events, the
-- host before it, what was returned, and the host after it.
pub record GroupMeets (group : List Event) (old : HostView) (answer : Result (Vec Outcome Global) GroupFault) (new : HostView) : Type 0 where
  pub took : (w : World) → IsHost old w → IfOk answer (λ outcomes. TookGroup w group outcomes.items old new)
  pub halts : (w : World) → IsHost old w → IfErr answer (HaltsGroup w group old new)
  pub before : old.store.real ≡ old.store.disk
  pub after : new.store.real ≡ new.store.disk
  pub same : SameDisk old.store.disk new.store.disk

-- The same of `play_group_up_to`, which takes no event after the first one that is refused.
pub record UpToMeets (group : List Event) (old : HostView) (answer : Result (Vec Outcome Global) GroupFault) (new : HostView) : Type 0 where
  pub took : (w : World) → IsHost old w → IfOk answer (λ outcomes. TookUpTo w group outcomes.items old new)
  pub halts : (w : World) → IsHost old w → IfErr answer (HaltsUpTo w group old new)
  pub before : old.store.real ≡ old.store.disk
  pub after : new.store.real ≡ new.store.disk
  pub same : SameDisk old.store.disk new.store.disk

-- The same of `play_whole`, which takes all of its commands or none.
pub record WholeMeets (edits : List Event) (old : HostView) (answer : Result Whole WholeFault) (new : HostView) : Type 0 where
  pub made : (w : World) → IsHost old w → IfOk answer (MadeWhole w edits old new)
  pub halts : (w : World) → IsHost old w → IfErr answer (HaltsWhole w edits old new)
  pub before : old.store.real ≡ old.store.disk
  pub after : new.store.real ≡ new.store.disk
  pub same : SameDisk old.store.disk new.store.disk

-- What a fault leaves of a call of `play_joining`, of all events that were to be taken.
abbrev pub HaltsAll : World → List Event → HostView → HostView → JoinFault → Type 0
HaltsAll w all old new joins.Checkpoint = new ≡ old
HaltsAll w all old new joins.NoRoom = new ≡ old
HaltsAll w all old new (joins.Stopped fault) = (reported : List Outcome) × StoppedGroup w all old new reported fault
HaltsAll w all old new joins.Disk = FailedGroup w all old new

-- The same of `play_joining`, of the world that the host stands for: what joins the events is answered by that, and these are all of them.
pub record JoinedMeets (w : World) (all : List Event) (old : HostView) (answer : Result Joint JoinFault) (new : HostView) : Type 0 where
  pub took : IfOk answer (λ joint. TookGroup w all (joint.outcomes.items ++ joint.later.items) old new)
  pub halts : IfErr answer (HaltsAll w all old new)
  pub before : old.store.real ≡ old.store.disk
  pub after : new.store.real ≡ new.store.disk
  pub same : SameDisk old.store.disk new.store.disk

-- the outcomes that such a call returned
abbrev pub returned : Result (Vec Outcome Global) GroupFault → List Outcome
returned (Ok outcomes) = outcomes.items
returned (Err (halt.Stopped outcomes fault)) = outcomes.items
returned (Err (halt.Checkpoint back)) = []
returned (Err (halt.NoRoom back)) = []
returned (Err halt.Disk) = []

-- and those of commands that were taken as a whole: of such that weren't taken none counts
abbrev pub whole_returned : Result Whole WholeFault → List Outcome
whole_returned (Ok (whole.Taken outcomes)) = outcomes.items
whole_returned (Ok (whole.Refused first last)) = []
whole_returned (Err why) = []

-- and those of events that others joined, which a fault returns none of
abbrev pub joint_returned : Result Joint JoinFault → List Outcome
joint_returned (Ok joint) = joint.outcomes.items ++ joint.later.items
joint_returned (Err why) = []

-- A group is a part of a turn, too. A host was opened, took events and returned their outcomes, and stands for the world that they led
-- to; now it plays a group of events more. A crash at any moment of that, whatever it answers, makes a turn of the events with the group that
-- returned the earlier outcomes. A crash after it makes a turn that returned the group's outcomes too. Where it answers Ok, the host stands
-- for the world that the events with the group lead to.
abbrev pub GroupsAreTurns : Type 0
GroupsAreTurns = (room end : ℕ) (before : Image) (found : List Op)
    → Allowed found → IsSheetImage (sheet_of found) before → EndsAt before end
    → (events : List Event) (reported : List Outcome) (w : World)
    → Runs (world_at_opening found room end) events reported w
    → (group : List Event) (old new : HostView) (answer : Result (Vec Outcome Global) GroupFault)
    → IsHost old w → GroupMeets group old answer new
    → CrashesAreTurns room before found (record { events = events ++ group; reported = reported }) old.store.disk new.store.disk
    × CrashesAreTurns room before found (record { events = events ++ group; reported = reported ++ returned answer }) new.store.disk new.store.disk
    × IfOk answer (λ outcomes. (v : World) × Runs (world_at_opening found room end) (events ++ group) (reported ++ outcomes.items) v × IsHost new v)

-- So is one that stops at a refusal. The events after that are of those that were lost. Where it answers Ok, and as many outcomes as there are
-- events, the host stands for the world that the events with the group lead to.
abbrev pub GroupsUpToAreTurns : Type 0
GroupsUpToAreTurns = (room end : ℕ) (before : Image) (found : List Op)
    → Allowed found → IsSheetImage (sheet_of found) before → EndsAt before end
    → (events : List Event) (reported : List Outcome) (w : World)
    → Runs (world_at_opening found room end) events reported w
    → (group : List Event) (old new : HostView) (answer : Result (Vec Outcome Global) GroupFault)
    → IsHost old w → UpToMeets group old answer new
    → CrashesAreTurns room before found (record { events = events ++ group; reported = reported }) old.store.disk new.store.disk
    × CrashesAreTurns room before found (record { events = events ++ group; reported = reported ++ returned answer }) new.store.disk new.store.disk
    × IfOk answer (λ outcomes. length outcomes.items ≡ length group → (v : World) × Runs (world_at_opening found room end) (events ++ group) (reported ++ outcomes.items) v × IsHost new v)
