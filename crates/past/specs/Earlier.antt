-- What a worksheet was: the worksheet of the first of the changes that stand on its disk.
use Rattle.std.specs.Prelude.{◌≡◌, ◌<◌, ◌≤◌, ℕ, Bool, List, ◌++◌, Option, Some, None, Result, Ok, Err, IfOk, length, take}
use Rattle.disk_model.specs.Disk.{DiskView, Image, InModel, Looks, Rises, SameDisk, bytes_on}
use Rattle.journal.specs.Front.{ImageHasFront, TellsHeader}
use Rattle.journal.specs.declared.opening.OpenCause.{OpenCause}
use Rattle.journal.specs.declared.opening.OpenCause.TheVariants as opens
use Rattle.recovery.specs.Rescued.{IsRescued}
use Rattle.recovery.specs.Sheets.{Makes, codes_of}
use Rattle.recovery.specs.declared.rescuing.Rescued.{Rescued}
use Rattle.offline_programs.specs.declared.fault.RunFault.{RunFault}
use Rattle.offline_programs.specs.declared.fault.RunFault.TheVariants as fault
use Rattle.past.specs.declared.fault.PastFault.{PastFault}
use Rattle.past.specs.declared.fault.PastFault.TheVariants as past
use Rattle.past.specs.declared.first.Unread.{Unread}
use Rattle.worksheet.specs.Contents.{Contents}
use Rattle.worksheet.specs.Ops.{sheet_of}
use Rattle.worksheet.specs.declared.op.Op.{Op}

-- the worksheet after the first so many of these changes
abbrev pub after_first : ℕ → List Op → Contents
after_first n ops = sheet_of (take n ops)

-- These ops make a worksheet, and their payloads are the first that stand on an image, whatever comes after them.
pub record StandFirst (i : Image) (ops : List Op) : Type 0 where
  pub left : List (List ℕ)
  pub damaged : Bool
  pub front : ImageHasFront i (codes_of ops ++ left) damaged
  pub makes : Makes ops (sheet_of ops)

-- These are all changes that stand on an image before this damage, or none, and they are fewer than n.
abbrev pub AreFewer : Image → ℕ → Option ℕ → Type 0
AreFewer i n damage = (all : List Op) × IsRescued i all damage × (length all < n)

-- What the cause of a refused reading of n changes says: a damage comes before so many; there is no header; or it isn't in the bytes.
abbrev pub TellsOfLack : Image → ℕ → OpenCause → Type 0
TellsOfLack i n (opens.Damaged gate) = AreFewer i n (Some gate)
TellsOfLack i n opens.NotASheet = TellsHeader i opens.NotASheet
TellsOfLack i n opens.Disk = Unit {0}
TellsOfLack i n opens.OutOfMemory = Unit {0}

-- a program that reads changes has the faults of an opening alone
abbrev pub TellsOfRun : Image → ℕ → RunFault → Type 0
TellsOfRun i n (fault.Open cause) = TellsOfLack i n cause
TellsOfRun i n _ = ⊥

-- that there is no such change is answered only where they are fewer, and no damage is after them
abbrev pub TellsOfPast : Image → ℕ → PastFault → Type 0
TellsOfPast i n (past.NoChange number) = (number ≡ n) × AreFewer i n None
TellsOfPast i n (past.Run why) = TellsOfRun i n why

-- the worksheet of n changes that stand first on an image
abbrev pub IsOfFirst : {D : Type 0} → Image → ℕ → Rescued D → Type 0
IsOfFirst i n found = (ops : List Op) × StandFirst i ops × (length ops ≡ n) × (found.sheet.contents ≡ sheet_of ops)

-- The worksheet after the first n changes of an image, where so many stand on it; else why it can't be had.
abbrev pub IsAfter : {D : Type 0} → Image → ℕ → Result (Rescued D) PastFault → Type 0
IsAfter i n (Ok found) = IsOfFirst i n found
IsAfter i n (Err why) = TellsOfPast i n why

-- the disk whose first changes were read, after that
abbrev pub disk_read : {D : Type 0} → Result (Rescued D) (Unread D) → D
disk_read (Ok found) = found.disk
disk_read (Err unread) = unread.disk

-- the worksheet of them, or why it can't be had
abbrev pub answer_read : {D : Type 0} → Result (Rescued D) (Unread D) → Result (Rescued D) PastFault
answer_read (Ok found) = Ok found
answer_read (Err unread) = Err unread.fault

-- The first n changes on a disk were read: what was found is the worksheet after them, and no byte of the disk was changed,
-- whatever is answered.
pub record FirstAreRead {D : Type 0} (view : D → DiskView) (n : ℕ) (disk after : D)
    (answer : Result (Rescued D) PastFault) : Type 0 where
  pub same : SameDisk (view disk) (view after)
  pub looks : InModel (view disk) (Looks (view disk).history (view after).history)
  pub disk_is : IfOk answer (λ found. found.disk ≡ after)
  -- whether the disk keeps the model or not, the worksheet is made by so many allowed ops
  pub made : IfOk answer (λ found. (ops : List Op) × Makes ops found.sheet.contents × (length ops ≡ n))
  pub counted : IfOk answer (λ found. found.kept ≡ n)
  pub whole : InModel (view disk) (IfOk answer (λ found. found.damage ≡ None))
  pub after_them : InModel (view disk) (IsAfter (bytes_on (view disk)) n answer)
  -- of those that a rescue would keep they are the first n, so the bytes say which they are
  pub of_all : InModel (view disk) ((all : List Op) (damage : Option ℕ) → IsRescued (bytes_on (view disk)) all damage
      → IfOk answer (λ found. (n ≤ length all) × (found.sheet.contents ≡ after_first n all)))
  pub failed : answer ≡ Err (past.Run (fault.Open opens.Disk)) → Rises (view disk).faults (view after).faults
  -- where anything else is answered, no call of the disk failed
  pub steady : (answer ≡ Err (past.Run (fault.Open opens.Disk)) → ⊥) → (view after).faults ≡ (view disk).faults
