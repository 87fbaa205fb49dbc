-- What a rescue keeps of a worksheet, what it writes, and what it tells.
use Rattle.std.specs.Prelude.{◌⊎◌, IsOk, ◌≡◌, ℕ, List, [], ◌∷◌, ◌++◌, Option, Some, None, Result, Ok, Err, IfOk, IfErr, codes, length}
use Rattle.std.specs.Fmt.{decimal}
use Rattle.disk_model.specs.Disk.{DiskView, InModel, Leaves, LeavesOnly, Looks, Rises, SameDisk, bytes_on}
use Rattle.journal.specs.Front.{TellsHeader}
use Rattle.journal.specs.Open.{AreEmpty}
use Rattle.journal.specs.declared.opening.OpenCause.{OpenCause}
use Rattle.journal.specs.declared.opening.OpenCause.TheVariants as opens
use Rattle.recovery.specs.Checkpointed.{HasRoomAgain}
use Rattle.recovery.specs.Rescued.{IsRescued}
use Rattle.recovery.specs.Saved.{IsBeingSaved}
use Rattle.recovery.specs.Sheets.{IsSheetImage, Makes}
use Rattle.recovery.specs.declared.rescuing.Rescued.{Rescued}
use Rattle.recovery.specs.declared.saving.SaveCause.{SaveCause}
use Rattle.recovery.specs.declared.saving.SaveCause.TheVariants as saves
use Rattle.host_events.specs.declared.outcome.HostFault.TheVariants as hosts
use Rattle.worksheet.specs.declared.op.Op.{Op}
use Rattle.worksheet.specs.Contents.{Contents}
use Rattle.worksheet.specs.Ops.{sheet_of}
use Rattle.offline_programs.specs.declared.fault.RunFault.{RunFault}
use Rattle.offline_programs.specs.declared.fault.RunFault.TheVariants as fault
use Rattle.offline_programs.specs.declared.rescuing.FrontFault.{FrontFault}
use Rattle.offline_programs.specs.declared.rescuing.RescueFault.{RescueFault}
use Rattle.offline_programs.specs.declared.rescuing.RescueFault.TheVariants as rescues

-- the line that tells how many ops were kept, and the offset of the gate where it stops
abbrev pub kept_text : ℕ → Option ℕ → List ℕ
kept_text kept None = codes "kept " ++ decimal kept ++ codes ", whole\n"
kept_text kept (Some gate) = codes "kept " ++ decimal kept ++ codes ", damaged at " ++ decimal gate ++ 10 ∷ []

-- What a fault tells of the damaged disk: that it has no header, or a cause that isn't in its bytes.
pub data TellsRescue (disk : DiskView) : RunFault → Type 0 where
  headless : (why : OpenCause) → InModel disk (TellsHeader (bytes_on disk) why) → TellsRescue disk (fault.Open why)

-- the disk whose front was read, after that
abbrev pub front_disk : {D : Type 0} → Result (Rescued D) (FrontFault D) → D
front_disk (Ok found) = found.disk
front_disk (Err unread) = unread.disk

-- what was found there, or why nothing was
abbrev pub front_answer : {D : Type 0} → Result (Rescued D) (FrontFault D) → Result (Rescued D) RunFault
front_answer (Ok found) = Ok found
front_answer (Err unread) = Err unread.fault

-- The front of a disk was read: what was found are the ops there, up to the first damage, and no byte
-- of the disk was changed, whatever is answered.
pub record FrontIsRead {D : Type 0} (view : D → DiskView) (disk after : D)
    (answer : Result (Rescued D) RunFault) : Type 0 where
  pub same : SameDisk (view disk) (view after)
  pub looks : InModel (view disk) (Looks (view disk).history (view after).history)
  pub disk_is : IfOk answer (λ found. found.disk ≡ after)
  pub made : IfOk answer (λ found. (ops : List Op) × Makes ops found.sheet.contents
      × (found.kept ≡ length ops))
  pub found : InModel (view disk) (IfOk answer (λ found. (ops : List Op)
      × IsRescued (bytes_on (view disk)) ops found.damage
      × (found.sheet.contents ≡ sheet_of ops) × (found.kept ≡ length ops)))
  pub tells : IfErr answer (TellsRescue (view disk))
  pub failed : answer ≡ Err (fault.Open opens.Disk) → Rises (view disk).faults (view after).faults
  -- where anything else is answered, no call of the disk failed
  pub steady : (answer ≡ Err (fault.Open opens.Disk) → ⊥) → (view after).faults ≡ (view disk).faults

-- the fault of a worksheet that can't be written
abbrev pub save_fault : SaveCause → RescueFault
save_fault saves.NotEmpty = rescues.NotEmpty
save_fault saves.Full = rescues.Run (fault.Host hosts.JournalFull)
save_fault saves.OutOfMemory = rescues.Run (fault.Open opens.OutOfMemory)
save_fault saves.Disk = rescues.Run (fault.Open opens.Disk)

-- the worksheet was written: nothing failed, or only the line that tells of it
abbrev pub IsWritten : Result Unit RescueFault → Type 0
IsWritten answer = IsOk answer ⊎ (answer ≡ Err (rescues.Run fault.Output))

-- The worksheet was written to a new disk, or that failed: what becomes of the disk.
pub record RescueIsSaved (old new : DiskView) (sheet : Contents)
    (answer : Result Unit RescueFault) : Type 0 where
  pub same : SameDisk old new
  -- the disk was empty, and whatever a crash leaves is an image of the worksheet
  pub written : InModel old (IsWritten answer
      → AreEmpty (bytes_on old) × Leaves (IsSheetImage sheet) new.history.now)
  -- so at every moment, but for what a creation leaves that is cut off, or the empty worksheet
  pub moments : InModel old
      (LeavesOnly (IsBeingSaved old.history.now sheet) old.history new.history)
  pub not_empty : InModel old (answer ≡ Err rescues.NotEmpty → AreEmpty (bytes_on old) → ⊥)
  -- that it doesn't fit is answered only where an area has no room for it, and then nothing was changed
  pub full : answer ≡ Err (rescues.Run (fault.Host hosts.JournalFull))
      → (HasRoomAgain old.room sheet → ⊥) × (new ≡ old)
  -- where anything else is answered an area has room for it
  pub fits : (answer ≡ Err (rescues.Run (fault.Host hosts.JournalFull)) → ⊥) → HasRoomAgain old.room sheet
  pub failed : answer ≡ Err (rescues.Run (fault.Open opens.Disk)) → Rises old.faults new.faults
  -- where anything else is answered, no call of the disk failed
  pub steady : (answer ≡ Err (rescues.Run (fault.Open opens.Disk)) → ⊥) → new.faults ≡ old.faults
