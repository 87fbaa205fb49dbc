-- What an event leaves of the disk as it stands while records are owed. (docs/dev/HOST.md, "Many events, one gate".)
use Rattle.std.specs.Prelude.{◌≡◌, Bool, List, [], true, false}
use Rattle.std.specs.List.{AllByRecursion}
use Rattle.disk_model.specs.Disk.{InModel, Leaves, LeavesOnly}
use Rattle.worksheet.specs.Contents.{Contents}
use Rattle.recovery.specs.Sheets.{StoreView, GathersOn, IsSheetImage, IsSheetOf}
use Rattle.host_events.specs.declared.outcome.HostFault.TheVariants as hosts
use Rattle.session_engine.specs.declared.play.PlayFault.{PlayFault}
use Rattle.session_engine.specs.declared.play.PlayFault.TheVariants as halt
use Rattle.session_engine.specs.Host.{HostView}
use Rattle.host_events.specs.declared.command.Command.TheVariants as command
use Rattle.host_events.specs.declared.event.Event.{Event}
use Rattle.host_events.specs.declared.event.Event.TheVariants as event

-- the event asks for a checkpoint
abbrev pub is_checkpoint : Event → Bool
is_checkpoint (event.Command command.Checkpoint) = true
is_checkpoint _ = false

-- any other event leaves the disk as it stands alone while records are owed
abbrev pub GathersUnlessCheckpoint : Event → StoreView → StoreView → Type 0
GathersUnlessCheckpoint e old new = is_checkpoint e ≡ false → GathersOn old new

-- none of them asks for one
abbrev pub NoCheckpoints : List Event → Type 0
NoCheckpoints events = AllByRecursion (λ e. is_checkpoint e ≡ false) events

-- the disk fails only where records are written at once
abbrev pub OnlyAtOnce : StoreView → PlayFault → Type 0
OnlyAtOnce old (halt.NoRoom back) = Unit {0}
OnlyAtOnce old (halt.Stopped outcomes fault) = fault ≡ hosts.Disk → old.gathers ≡ false

-- nothing is owed, and each image of the disk as it stands is one of the worksheet
abbrev pub IsFlushed : HostView → Type 0
IsFlushed h = (h.store.owed ≡ []) × (h.store.disk ≡ h.store.real) × InModel h.store.disk (Leaves (IsSheetImage h.store.sheet.contents) h.store.disk.history.now)

-- At every moment from this store to that one each image of the disk as it stands is one of the worksheet that the disk had, or of
-- this worksheet.
abbrev pub FlushesTo : Contents → StoreView → StoreView → Type 0
FlushesTo sheet old new = InModel old.disk ((before : Contents) → Leaves (IsSheetImage before) old.real.history.now
    → LeavesOnly (IsSheetOf before sheet) old.real.history new.real.history)
