-- What a commit does.
use Rattle.std.specs.Prelude.{◌≡◌, ◌+◌, ◌++◌, ◌∷◌, [], List, length, true, false, Result, Ok, Err}
use Rattle.disk_model.specs.Disk.{InModel, Leaves, LeavesOnly, Rises, SameDisk, bytes_on}
use Rattle.journal.specs.Kept.{OtherUntouched, other_of}
use Rattle.worksheet.specs.declared.op.Op.{Op}
use Rattle.worksheet.specs.Ops.{sheet_of}
use Rattle.recovery.specs.Code.{code_of}
use Rattle.recovery.specs.Sheets.{StoreView, SameStore, HasPlace, IsEither, IsOwedOrWritten, IsSheetImage, KeepsOps, StandsWithOrWithout}
use Rattle.recovery.specs.declared.fault.CommitFault.{CommitFault}
use Rattle.recovery.specs.declared.fault.CommitFault.TheVariants as commits

-- the payload doesn't fit
abbrev pub DoesNotFit : Result Unit CommitFault → Type 0
DoesNotFit (Err (commits.Full o)) = Unit {0}
DoesNotFit other = ⊥

-- what a fault leaves: the op is handed back and nothing has changed, or the disk failed, the
-- worksheet is as before, and the store is closed
abbrev pub LeftBy : StoreView → StoreView → Op → CommitFault → Type 0
LeftBy old new op (commits.Full back) = (back ≡ op) × SameStore old new
LeftBy old new op (commits.OutOfMemory back) = (back ≡ op) × SameStore old new
LeftBy old new op commits.Disk = (new.sheet.contents ≡ old.sheet.contents) × (new.closed ≡ true)
    × Rises old.disk.faults new.disk.faults
LeftBy old new op commits.Closed = SameStore old new

-- the op was added: it comes after those of the worksheet, and its record, which is durable,
-- after those on the disk
pub record Adds (old new : StoreView) (op : Op) : Type 0 where
  pub still_open : new.closed ≡ false
  pub end : new.end ≡ old.end + 5 + length (code_of op)
  pub faults : new.disk.faults ≡ old.disk.faults
  pub contents : (ops : List Op) → old.sheet.contents ≡ sheet_of ops
      → new.sheet.contents ≡ sheet_of (ops ++ op ∷ [])
  pub kept : InModel old.disk ((ops : List Op) → KeepsOps old ops → KeepsOps new (ops ++ op ∷ []))
  pub images : InModel old.disk (Leaves (IsSheetImage new.sheet.contents) new.disk.history.now)
  pub real : IsOwedOrWritten old new

-- the disk failed: the worksheet is as before, and the store is closed
pub record Breaks (old new : StoreView) : Type 0 where
  pub contents : new.sheet.contents ≡ old.sheet.contents
  pub closed : new.closed ≡ true
  pub faults : Rises old.disk.faults new.disk.faults

-- what each answer to a commit of this op says of the store before and after it
abbrev pub CommitAnswers : StoreView → StoreView → Op → Result Unit CommitFault → Type 0
CommitAnswers old new op (Ok u) = HasPlace old (length (code_of op)) × Adds old new op
CommitAnswers old new op (Err (commits.Full back)) = (old.closed ≡ false)
    × (HasPlace old (length (code_of op)) → ⊥) × (back ≡ op) × SameStore old new
CommitAnswers old new op (Err (commits.OutOfMemory back)) =
    HasPlace old (length (code_of op)) × (back ≡ op) × SameStore old new
CommitAnswers old new op (Err commits.Disk) = HasPlace old (length (code_of op)) × Breaks old new
CommitAnswers old new op (Err commits.Closed) = (old.closed ≡ true) × SameStore old new

-- A crash at any moment leaves the worksheet from before it, or this with the op; so it does of the
-- payloads that the disk stands for; the area that isn't active is left alone.
pub record CommitMoments (old new : StoreView) (op : Op) : Type 0 where
  pub sheets : old.closed ≡ false → (ops : List Op) → old.sheet.contents ≡ sheet_of ops
      → LeavesOnly (IsEither ops op) old.disk.history new.disk.history
  pub payloads : (ops : List Op) → KeepsOps old ops
      → LeavesOnly (StandsWithOrWithout ops op) old.disk.history new.disk.history
  pub others : LeavesOnly (OtherUntouched old.disk.history.now) old.disk.history new.disk.history

-- all that a commit of an op does, by its answer
pub record Commits (old new : StoreView) (op : Op) (result : Result Unit CommitFault) : Type 0 where
  pub disk : SameDisk old.disk new.disk
  pub answer : CommitAnswers old new op result
  pub moments : InModel old.disk (CommitMoments old new op)
  pub other : InModel old.disk (other_of (bytes_on new.disk) ≡ other_of (bytes_on old.disk))
