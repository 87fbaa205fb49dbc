-- What may become of a disk before it is opened: hosts one after another, each ended by a crash at any moment, and what is opened then.
-- (docs/trust/THEOREM.md.) Premises have names here: A1 to A6 (README.md, "Premises").
use Rattle.std.specs.Prelude.{◌≤◌, ◌⊎◌, ℕ, IfOk, IsTrue, List, [], ◌∷◌, ◌++◌, length, Result}
use Rattle.std.specs.declared.alloc.Global.{Global}
use Rattle.std.specs.declared.vec.Vec.{Vec}
use Rattle.disk_model.specs.Disk.{AtMoment, DiskState, DiskView, History, Image, InModel, IsImage, IsRestarted, Looks, SameDisk, bytes_on}
use Rattle.worksheet.specs.declared.op.Op.{Op}
use Rattle.worksheet.specs.Ops.{sheet_of}
use Rattle.worksheet.specs.Checks.{Allowed}
use Rattle.recovery.specs.Sheets.{IsSheetImage}
use Rattle.journal.specs.declared.journal.OpenFault.{OpenFault}
use Rattle.host_events.specs.declared.event.Event.{Event}
use Rattle.host_events.specs.declared.outcome.HostFault.{HostFault}
use Rattle.host_events.specs.declared.outcome.Outcome.{Outcome}
use Rattle.session_engine.specs.declared.play.GroupFault.{GroupFault}
use Rattle.session_engine.specs.declared.whole.Whole.{Whole}
use Rattle.session_engine.specs.declared.whole.WholeFault.{WholeFault}
use Rattle.session_engine.specs.declared.joining.Joint.{Joint}
use Rattle.session_engine.specs.declared.joining.JoinFault.{JoinFault}
use Rattle.session_engine.specs.World.{World, world_at_opening}
use Rattle.session_engine.specs.Does.{Runs}
use Rattle.session_engine.specs.Host.{HostGivesSheet, HostView, IsHost}
use Rattle.host_laws.specs.Turns.{HostTurn, LeftInTurn}
use Rattle.host_laws.specs.OneHost.{JustOpened, StepMeets}
use Rattle.host_laws.specs.Together.{GroupMeets, JoinedMeets, UpToMeets, WholeMeets, joint_returned, returned, whole_returned}
use Rattle.host_laws.specs.Calls.{TookByCalls}

-- A crash came at this moment of the history of a disk, at or after an earlier moment of it, and left this image (A5). One that only a
-- process met, or none, leaves what a read gives, which is an image too.
pub record CrashedSince (old new : History) (after : Image) : Type 0 where
  pub moment : ℕ
  pub state : DiskState
  pub at : AtMoment moment new state
  pub since : length old.past ≤ moment
  pub leaves : IsImage state after

-- One call that plays a group of events, all of it or up to the first refusal, as its contract has it.
abbrev pub PlaysGroup : List Event → HostView → Result (Vec Outcome Global) GroupFault → HostView → Type 0
PlaysGroup group old answer new = GroupMeets group old answer new ⊎ UpToMeets group old answer new

-- What a host did last, that had begun in this world and whose turn was this one. With that call the events that it was given, and the outcomes
-- that it returned, are those of the new turn; and the crash came between this disk and that one. A call that was under way is one that would
-- have returned so (A5).
pub data Doing (start : World) (old : HostView) (was : HostTurn) : HostTurn → DiskView → DiskView → Type 0 where
  -- nothing more: it was closed, or the crash came between two calls
  nothing : Doing start old was was old.store.disk old.store.disk
  -- the crash came within a step, or after one that had a fault
  a_step : (e : Event) (answer : Result Outcome HostFault) (new : HostView) → StepMeets e old answer new
      → Doing start old was (record { events = was.events ++ e ∷ []; reported = was.reported }) old.store.disk new.store.disk
  -- within a group
  a_group : (group : List Event) (answer : Result (Vec Outcome Global) GroupFault) (new : HostView) → PlaysGroup group old answer new
      → Doing start old was (record { events = was.events ++ group; reported = was.reported }) old.store.disk new.store.disk
  -- after a group, which a refusal or a fault may have stopped, and which returned these outcomes
  after_group : (group : List Event) (answer : Result (Vec Outcome Global) GroupFault) (new : HostView) → PlaysGroup group old answer new
      → Doing start old was (record { events = was.events ++ group; reported = was.reported ++ returned answer }) new.store.disk new.store.disk
  -- within commands that were to be taken as a whole, and after them
  a_whole : (edits : List Event) (answer : Result Whole WholeFault) (new : HostView) → WholeMeets edits old answer new
      → Doing start old was (record { events = was.events ++ edits; reported = was.reported }) old.store.disk new.store.disk
  after_whole : (edits : List Event) (answer : Result Whole WholeFault) (new : HostView) → WholeMeets edits old answer new
      → Doing start old was (record { events = was.events ++ edits; reported = was.reported ++ whole_returned answer }) new.store.disk new.store.disk
  -- within events that others join, of the world that the host stands for, and after them
  a_joined : (w : World) → Runs start was.events was.reported w → IsHost old w → (all : List Event) (answer : Result Joint JoinFault) (new : HostView) → JoinedMeets w all old answer new
      → Doing start old was (record { events = was.events ++ all; reported = was.reported }) old.store.disk new.store.disk
  after_joined : (w : World) → Runs start was.events was.reported w → IsHost old w → (all : List Event) (answer : Result Joint JoinFault) (new : HostView) → JoinedMeets w all old answer new
      → Doing start old was (record { events = was.events ++ all; reported = was.reported ++ joint_returned answer }) new.store.disk new.store.disk

-- A host was opened on this image, was given events by steps, by groups, with others that joined them and as a whole, returned the outcomes of
-- those, and ended: a crash at any moment of what it did last left that image. Its disk kept the model (A1).
pub record HostLived (room : ℕ) (before : Image) (turn : HostTurn) (after : Image) : Type 0 where
  pub found : List Op
  pub opened : HostView
  pub begun : JustOpened room before found opened
  pub was : HostTurn
  pub old : HostView
  pub took : TookByCalls (world_at_opening found room opened.store.end) opened was.events was.reported old
  pub keeps_model : IsTrue old.store.disk.keeps_model
  pub from : DiskView
  pub to : DiskView
  pub doing : Doing (world_at_opening found room opened.store.end) old was turn from to
  pub crashed : CrashedSince from.history to.history after

-- One call, as the first of such a host's life.

-- A host was opened on this disk, which keeps the model, with the worksheet that its bytes are an image of. The opening changed no byte, and a
-- crash within it leaves what was there.
pub record OpenedFrom (disk : DiskView) (opened : HostView) : Type 0 where
  pub found : List Op
  pub begun : JustOpened disk.room (bytes_on disk) found opened
  pub same : SameDisk disk opened.store.disk
  pub looks : Looks disk.history opened.store.disk.history

-- Wherever a crash comes between these two disks, a host that was opened on the first one of all had this turn.
abbrev pub LivedSince : DiskView → HostTurn → DiskView → DiskView → Type 0
LivedSince disk turn from to = (after : Image) → CrashedSince from.history to.history after → HostLived disk.room (bytes_on disk) turn after

-- A host was opened on this disk and took one event, as the contract of `step` has it. A crash since it was opened ends the life of a host that
-- was given the event, and one since the call, where that returned an outcome, the life of one that returned it.
pub record LivedByStep (disk : DiskView) (e : Event) (answer : Result Outcome HostFault) (new : HostView) : Type 0 where
  pub opened : HostView
  pub begins : OpenedFrom disk opened
  pub meets : StepMeets e opened answer new
  pub within : LivedSince disk (record { events = e ∷ []; reported = [] }) opened.store.disk new.store.disk
  pub after : IfOk answer (λ o. LivedSince disk (record { events = e ∷ []; reported = o ∷ [] }) new.store.disk new.store.disk)

-- The same of a group of events, as the contract of `play_group` has it: one since the call ends the life of a host that returned what the call
-- did.
pub record LivedByGroup (disk : DiskView) (group : List Event) (answer : Result (Vec Outcome Global) GroupFault) (new : HostView) : Type 0 where
  pub opened : HostView
  pub begins : OpenedFrom disk opened
  pub meets : GroupMeets group opened answer new
  pub within : LivedSince disk (record { events = group; reported = [] }) opened.store.disk new.store.disk
  pub after : LivedSince disk (record { events = group; reported = returned answer }) new.store.disk new.store.disk

-- From one image of a disk to another: hosts lived one after another, each on the image that the one before it left (A3), all with the same
-- room (A4); and openings were cut off or refused.
pub data Story (room : ℕ) : Image → List HostTurn → Image → Type 0 where
  ends : {at : Image} → Story room at [] at
  opening : {before mid after : Image} {turns : List HostTurn} (disk later : DiskView) → IsRestarted before disk → Looks disk.history later.history
      → CrashedSince disk.history later.history mid → Story room mid turns after → Story room before turns after
  host : {before mid after : Image} {turn : HostTurn} {turns : List HostTurn} → HostLived room before turn mid → Story room mid turns after
      → Story room before (turn ∷ turns) after

-- What is opened after such a story: the worksheet after a prefix of each host's events in turn, each prefix with all whose outcomes were
-- returned; each answer in it was there at first, or is the whole block that answered its field's line. Or it isn't opened, for a cause
-- that isn't in the bytes: the disk failed, or memory was refused.
pub record Opens {D : Type 0} (room : ℕ) (first : List Op) (before after : Image) (turns : List HostTurn) (result : Result HostView (OpenFault D)) : Type 0 where
  pub left : LeftInTurn room first before after turns
  pub opens : HostGivesSheet (sheet_of left.kept) result

-- The theorem, of what is opened on this disk, which keeps the model (A1): where a worksheet of allowed ops stood at first (A2), and a story
-- led from its image to the bytes that are read now (A3 to A5).
abbrev pub OpensAfterHosts : {D : Type 0} → DiskView → Result HostView (OpenFault D) → Type 0
OpensAfterHosts disk result = InModel disk ((room : ℕ) (first : List Op) (before : Image) (turns : List HostTurn)
    → Allowed first → IsSheetImage (sheet_of first) before → Story room before turns (bytes_on disk)
    → Opens room first before (bytes_on disk) turns result)
