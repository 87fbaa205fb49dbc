-- The worksheet that a disk stands for (docs/trust/FORMAT.md, "Payloads").
use Rattle.std.specs.Prelude.{◌≡◌, ◌⊎◌, ◌+◌, ◌≤◌, ℕ, Bool, true, false, List, [], ◌∷◌, ◌++◌, length, map, None}
use Rattle.std.specs.List.{AllByRecursion}
use Rattle.disk_model.specs.Disk.{DiskView, Image, InModel, Leaves}
use Rattle.worksheet.specs.declared.op.Op.{Op}
use Rattle.worksheet.specs.Contents.{Contents, SheetView}
use Rattle.worksheet.specs.Ops.{sheet_of}
use Rattle.worksheet.specs.Checks.{Allowed, first_refusal, room_for}
use Rattle.journal.specs.Area.{ArePayloads, end_of}
use Rattle.journal.specs.Kept.{ImageStandsFor, Keeps, Fits}
use Rattle.journal.specs.Limits.{longest_payload}
use Rattle.journal.specs.Open.{Tells}
use Rattle.journal.specs.declared.opening.OpenCause.{OpenCause}
use Rattle.journal.specs.declared.opening.OpenCause.TheVariants as opens
use Rattle.recovery.specs.Code.{code_of, IsTyped, IsPayloadOf}

-- the payloads of these ops
abbrev pub codes_of : List Op → List (List ℕ)
codes_of ops = map code_of ops

-- the sheet is what these ops make of an empty worksheet, which allows each of them after those
-- before it; each has a payload that a record may have
pub record Makes (ops : List Op) (sheet : Contents) : Type 0 where
  pub typed : AllByRecursion IsTyped ops
  pub lengths : ArePayloads longest_payload (codes_of ops)
  pub allowed : Allowed ops
  pub is : sheet ≡ sheet_of ops

-- an image of the sheet: it stands for the payloads of ops that make it
pub record IsSheetImage (sheet : Contents) (i : Image) : Type 0 where
  pub ops : List Op
  pub stands : ImageStandsFor i (codes_of ops)
  pub makes : Makes ops sheet

-- the image stands for the payloads of these ops, or for these and the payload of one op more
abbrev pub StandsWithOrWithout : List Op → Op → Image → Type 0
StandsWithOrWithout ops o i =
    ImageStandsFor i (codes_of ops) ⊎ ImageStandsFor i (codes_of (ops ++ o ∷ []))

-- an image of the sheet of these ops, or of the sheet with one op more
abbrev pub IsEither : List Op → Op → Image → Type 0
IsEither ops o i = IsSheetImage (sheet_of ops) i ⊎ IsSheetImage (sheet_of (ops ++ o ∷ [])) i

-- The payloads before this gate are those of allowed ops; the payload after it is of no op that is
-- allowed next.
pub record IsRefusedAt (payloads : List (List ℕ)) (gate : ℕ) : Type 0 where
  pub ops : List Op
  pub payload : List ℕ
  pub more : List (List ℕ)
  pub is : payloads ≡ codes_of ops ++ payload ∷ more
  pub gate_is : gate ≡ end_of (codes_of ops)
  pub makes : Makes ops (sheet_of ops)
  pub wrong : (o : Op) → IsPayloadOf o payload → first_refusal (sheet_of ops) o ≡ None → ⊥

-- What a cause says of a disk. Damage is that of the walk, or where the gates are whole the first
-- payload that is refused.
abbrev pub TellsOfSheet : Image → OpenCause → Type 0
TellsOfSheet i (opens.Damaged gate) = Tells i (opens.Damaged gate)
    ⊎ ((payloads : List (List ℕ)) × ImageStandsFor i payloads × IsRefusedAt payloads gate)
TellsOfSheet i opens.NotASheet = Tells i opens.NotASheet
TellsOfSheet i opens.Disk = Unit {0}
TellsOfSheet i opens.OutOfMemory = Unit {0}

-- A store as contracts see it: its disk, as it would be if each record that is owed had been appended;
-- while it is open the offset of the closed gate after that disk's payloads; its worksheet; and whether
-- it is closed. Then the disk as it stands; the payloads that are owed to it; whether records are owed,
-- and not written at once; the offset of the closed gate after the payloads of the disk as it stands,
-- and 0 where the store is closed; and for how many bytes of a record there is memory.
pub record StoreView : Type 0 where
  pub disk : DiskView
  pub end : ℕ
  pub sheet : SheetView
  pub closed : Bool
  pub real : DiskView
  pub owed : List (List ℕ)
  pub gathers : Bool
  pub start : ℕ
  pub place : ℕ

-- The store isn't closed, and keeps these ops: its disk stands for their payloads, which are
-- durable, its end is the gate after them, and they make its worksheet.
pub record KeepsOps (store : StoreView) (ops : List Op) : Type 0 where
  pub still_open : store.closed ≡ false
  pub keeps : Keeps store.disk.history store.end (codes_of ops)
  pub makes : Makes ops store.sheet.contents

-- What is true of each store: allowed ops made its worksheet; while it is open it keeps their
-- payloads, and a crash leaves an image of its worksheet. Where nothing is owed its disk is as it
-- stands, and ends there; so it is where records are written at once.
pub record IsStore (store : StoreView) : Type 0 where
  pub made : (ops : List Op) × Makes ops store.sheet.contents
  pub kept : InModel store.disk (store.closed ≡ false → (ops : List Op) × KeepsOps store ops)
  pub images : InModel store.disk
      (store.closed ≡ false → Leaves (IsSheetImage store.sheet.contents) store.disk.history.now)
  pub none_owed : store.owed ≡ [] → store.real ≡ store.disk
  pub started : store.owed ≡ [] → store.start ≡ store.end
  pub written : store.gathers ≡ false → (store.owed ≡ []) × (store.real ≡ store.disk)

-- the store isn't closed, and a payload of so many bytes fits on its disk
abbrev pub HasPlace : StoreView → ℕ → Type 0
HasPlace store n = (store.closed ≡ false) × Fits store.disk.room store.end n

-- the op is allowed, it fits, memory is ready for it, and the payload is its own
pub record IsReady (store : StoreView) (o : Op) (payload : List ℕ) : Type 0 where
  pub allowed : first_refusal store.sheet.contents o ≡ None
  pub fits : HasPlace store (length (code_of o))
  pub room : room_for store.sheet o ≡ true
  pub own : IsPayloadOf o payload
  pub place : 5 + length (code_of o) ≤ store.place

-- memory may have been made ready, and nothing else has changed
pub record SameStore (old new : StoreView) : Type 0 where
  pub disk : new.disk ≡ old.disk
  pub end : new.end ≡ old.end
  pub contents : new.sheet.contents ≡ old.sheet.contents
  pub closed : new.closed ≡ old.closed
  pub real : new.real ≡ old.real
  pub owed : new.owed ≡ old.owed
  pub gathers : new.gathers ≡ old.gathers
  pub start : new.start ≡ old.start

-- an image of this sheet, or of that one
abbrev pub IsSheetOf : Contents → Contents → Image → Type 0
IsSheetOf before after i = IsSheetImage before i ⊎ IsSheetImage after i

-- Where records are owed, the disk as it stands is left alone; else it is the disk.
pub record IsOwedOrWritten (old new : StoreView) : Type 0 where
  pub gathers : new.gathers ≡ old.gathers
  pub owed : old.gathers ≡ true → new.real ≡ old.real
  pub written : old.gathers ≡ false → new.real ≡ new.disk

-- Whether records are owed or written at once stays as it was; while they are owed, the disk as it
-- stands is left alone with its end, and an open store stays open.
pub record GathersOn (old new : StoreView) : Type 0 where
  pub gathers : new.gathers ≡ old.gathers
  pub real : old.gathers ≡ true → new.real ≡ old.real
  pub start : old.gathers ≡ true → new.start ≡ old.start
  pub closed : old.gathers ≡ true → new.closed ≡ old.closed
