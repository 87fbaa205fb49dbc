-- What a checkpoint does.
use Rattle.std.specs.Prelude.{◌≡◌, ℕ, true, false, Result, Ok, Err}
use Rattle.disk_model.specs.Disk.{InModel, Rises}
use Rattle.journal.specs.Area.{end_of}
use Rattle.journal.specs.Kept.{FitsAgain}
use Rattle.worksheet.specs.Contents.{Contents}
use Rattle.worksheet.specs.Rewrite.{rewrite_of}
use Rattle.recovery.specs.Sheets.{StoreView, SameStore, KeepsOps, codes_of}
use Rattle.recovery.specs.declared.fault.CheckpointFault.{CheckpointFault}
use Rattle.recovery.specs.declared.fault.CheckpointFault.TheVariants as faults

-- an area has room for the payloads of the ops that make a worksheet again; none of them is too long (the law
-- `RewritesAreShort`)
abbrev pub HasRoomAgain : ℕ → Contents → Type 0
HasRoomAgain room sheet = FitsAgain room (codes_of (rewrite_of sheet))

-- what each answer to a checkpoint says of the store before and after it: the worksheet is the same in each case
abbrev pub CheckpointAnswers : StoreView → StoreView → Result Unit CheckpointFault → Type 0
CheckpointAnswers old new (Ok u) = (old.closed ≡ false) × HasRoomAgain old.disk.room old.sheet.contents × (new.closed ≡ false) × (new.end ≡ end_of (codes_of (rewrite_of old.sheet.contents)))
    × (new.disk.faults ≡ old.disk.faults) × InModel old.disk (KeepsOps new (rewrite_of old.sheet.contents))
CheckpointAnswers old new (Err faults.Full) = (old.closed ≡ false) × (HasRoomAgain old.disk.room old.sheet.contents → ⊥) × SameStore old new
CheckpointAnswers old new (Err faults.OutOfMemory) = (old.closed ≡ false) × HasRoomAgain old.disk.room old.sheet.contents × SameStore old new
CheckpointAnswers old new (Err faults.Disk) = (old.closed ≡ false) × HasRoomAgain old.disk.room old.sheet.contents × (new.closed ≡ true) × Rises old.disk.faults new.disk.faults
CheckpointAnswers old new (Err faults.Closed) = (old.closed ≡ true) × SameStore old new
