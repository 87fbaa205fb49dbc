-- Ops that are put after those of a worksheet on a disk, one after another, and what a crash leaves of them.
use Rattle.std.specs.Prelude.{◌≡◌, ℕ, List, [], ◌∷◌, ◌++◌, false, length, Result, Ok, Err}
use Rattle.disk_model.specs.Disk.{DiskView, Image, InModel, Leaves, LeavesOnly, Rises, SameDisk}
use Rattle.worksheet.specs.declared.op.Op.{Op}
use Rattle.worksheet.specs.declared.op.Op.TheVariants as op
use Rattle.worksheet.specs.declared.field.Answer.{Answer}
use Rattle.worksheet.specs.Ops.{sheet_of}
use Rattle.worksheet.specs.Checks.{AllowedFrom}
use Rattle.recovery.specs.Code.{code_of}
use Rattle.recovery.specs.Sheets.{HasPlace, IsEither, IsSheetImage, IsStore, StoreView}
use Rattle.sheet_check.specs.declared.accept.PutFault.{PutFault}
use Rattle.sheet_check.specs.declared.accept.PutFault.TheVariants as refused

-- the op that puts an answer into a field
abbrev pub answer_op : ℕ → Answer → Op
answer_op id answer = op.Answer id answer.prompt answer.output

-- An image of the worksheet of these ops and of some of the first of more.
pub record IsAmong (ops more : List Op) (i : Image) : Type 0 where
  pub done : List Op
  pub rest : List Op
  pub split : more ≡ done ++ rest
  pub image : IsSheetImage (sheet_of (ops ++ done)) i

-- From a disk that holds the worksheet of these ops to the same disk with more after them, each allowed after those before it, which are
-- durable. At every moment each image was of the worksheet after some of the first of those.
pub record HoldsAll (ops more : List Op) (old new : DiskView) : Type 0 where
  pub from : AllowedFrom ops more
  pub same : SameDisk old new
  pub steady : new.faults ≡ old.faults
  pub holds : InModel old (Leaves (IsSheetImage (sheet_of (ops ++ more))) new.history.now)
  pub moments : InModel old (LeavesOnly (IsAmong ops more) old.history new.history)

-- The same where the disk failed at one op after those, which was allowed, too: an image may have it, or not.
pub record HoldsBut (ops more : List Op) (one : Op) (old new : DiskView) : Type 0 where
  pub from : AllowedFrom ops (more ++ one ∷ [])
  pub same : SameDisk old new
  pub failed : Rises old.faults new.faults
  pub holds : InModel old (Leaves (IsEither (ops ++ more) one) new.history.now)
  pub moments : InModel old (LeavesOnly (IsAmong ops (more ++ one ∷ [])) old.history new.history)

-- A store on that disk goes on, and its worksheet is that of all these ops.
pub record Stores (ops more : List Op) (old : DiskView) (store : StoreView) : Type 0 where
  pub still_open : store.closed ≡ false
  pub contents : store.sheet.contents ≡ sheet_of (ops ++ more)
  pub disk : HoldsAll ops more old store.disk

-- The op doesn't fit on this disk, after the payloads that stand there.
pub record NoPlace (one : Op) (disk : DiskView) : Type 0 where
  pub store : StoreView
  pub is : IsStore store
  pub still_open : store.closed ≡ false
  pub place : HasPlace store (length (code_of one)) → ⊥
  pub on_it : store.disk ≡ disk

-- What comes of one op after those: it is put there, or nothing is, or the disk failed.
abbrev pub PutsOne : List Op → List Op → DiskView → Op → StoreView → Result Unit PutFault → Type 0
PutsOne ops more disk one new (Ok u) = Stores ops (more ++ one ∷ []) disk new
PutsOne ops more disk one new (Err refused.Full) = Stores ops more disk new × NoPlace one new.disk
PutsOne ops more disk one new (Err refused.OutOfMemory) = Stores ops more disk new
PutsOne ops more disk one new (Err refused.Disk) = HoldsBut ops more one disk new.disk
