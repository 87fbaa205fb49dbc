-- What a store stands on: a journal, or a disk that has failed. No public clause speaks of it.
use Rattle.std.specs.Prelude.{◌≡◌, ◌⊎◌, ℕ, ◌+◌, Bool, true, false, List, [], length, Option, Some, None, Result, Ok, Err}
use Rattle.disk_model.specs.Disk.{DiskView, InModel, Rises}
use Rattle.journal.specs.Area.{ArePayloads, end_of, records}
use Rattle.worksheet.specs.declared.op.Op.{Op}
use Rattle.worksheet.specs.Contents.{Contents, SheetView}
use Rattle.worksheet.specs.Ops.{sheet_of}
use Rattle.journal.specs.Kept.{Fits, FitsAll, FitsAgain, JournalView, Keeps}
use Rattle.journal.specs.Limits.{longest_payload}
use Rattle.journal.specs.Owed.{owed_disk}
use Rattle.recovery.specs.Sheets.{StoreView, codes_of, Makes}
use Rattle.recovery.specs.declared.fault.CheckpointFault.{CheckpointFault}
use Rattle.recovery.specs.declared.fault.CheckpointFault.TheVariants as faults
use Rattle.recovery.specs.declared.base.Base.{Base}
use Rattle.recovery.specs.declared.base.Base.TheVariants.{Open, Gathering, Closed}

abbrev pub no_disk : DiskView
no_disk = record {
  room = 0;
  faults = 0;
  keeps_model = false;
  history = record {
    now = record {
      first = record { content = []; synced = []; writes = [] };
      second = record { content = []; synced = []; writes = [] };
    };
    past = [];
  };
}

abbrev pub disk_of : {D : Type 0} → (D → DiskView) → Base D → DiskView
disk_of view (Open journal) = journal.disk
disk_of view (Gathering journal group) = owed_disk journal.disk journal.end group.payloads
disk_of view (Closed disk) = view disk

-- the disk as it stands, without what is owed to it
abbrev pub real_of : {D : Type 0} → (D → DiskView) → Base D → DiskView
real_of view (Open journal) = journal.disk
real_of view (Gathering journal group) = journal.disk
real_of view (Closed disk) = view disk

-- the payloads that are owed
abbrev pub owed_to : {D : Type 0} → Base D → List (List ℕ)
owed_to (Open journal) = []
owed_to (Gathering journal group) = group.payloads
owed_to (Closed disk) = []

-- payloads are owed, and not written at once
abbrev pub gathers : {D : Type 0} → Base D → Bool
gathers (Open journal) = false
gathers (Gathering journal group) = true
gathers (Closed disk) = false

-- for so many bytes there is memory, where they are to be owed; else none is wanted
abbrev pub place_for : {D : Type 0} → Base D → ℕ
place_for (Open journal) = 5 + longest_payload
place_for (Gathering journal group) = group.place
place_for (Closed disk) = 5 + longest_payload

abbrev pub end_in : {D : Type 0} → Base D → ℕ
end_in (Open journal) = journal.end
end_in (Gathering journal group) = journal.end + length (records group.payloads)
end_in (Closed disk) = 0

-- where the payloads of the disk as it stands end
abbrev pub start_in : {D : Type 0} → Base D → ℕ
start_in (Open journal) = journal.end
start_in (Gathering journal group) = journal.end
start_in (Closed disk) = 0

abbrev pub is_closed : {D : Type 0} → Base D → Bool
is_closed (Open journal) = false
is_closed (Gathering journal group) = false
is_closed (Closed disk) = true

-- a payload of so many bytes fits
abbrev pub HasPlaceIn : {D : Type 0} → Base D → ℕ → Type 0
HasPlaceIn (Open journal) n = Fits journal.disk.room journal.end n
HasPlaceIn (Gathering journal group) n = Fits journal.disk.room (journal.end + length (records group.payloads)) n
HasPlaceIn (Closed disk) n = ⊥

-- the journal keeps these payloads
abbrev pub KeepsIn : {D : Type 0} → Base D → List (List ℕ) → Type 0
KeepsIn (Open journal) payloads = Keeps journal.disk.history journal.end payloads
KeepsIn (Gathering journal group) payloads = Keeps (owed_disk journal.disk journal.end group.payloads).history (journal.end + length (records group.payloads)) payloads
KeepsIn (Closed disk) payloads = ⊥

-- the journal keeps the payloads of ops that make the sheet
pub record KeepsSheet {D : Type 0} (base : Base D) (sheet : Contents) : Type 0 where
  pub ops : List Op
  pub keeps : KeepsIn base (codes_of ops)
  pub makes : Makes ops sheet

-- What is owed fits, and the disk as it stands keeps the payloads of ops that make a worksheet.
pub record MayOwe (journal : JournalView) (owed : List (List ℕ)) : Type 0 where
  pub fits : (owed ≡ []) ⊎ FitsAll journal.disk.room journal.end owed
  pub each : ArePayloads longest_payload owed
  pub ops : InModel journal.disk ((ops : List Op) × Keeps journal.disk.history journal.end (codes_of ops) × Makes ops (sheet_of ops))

abbrev pub MayOweIn : {D : Type 0} → Base D → Type 0
MayOweIn (Open journal) = Unit {0}
MayOweIn (Gathering journal group) = MayOwe journal group.payloads
MayOweIn (Closed disk) = Unit {0}

-- the disk as it stands keeps these payloads
abbrev pub RealKeeps : {D : Type 0} → Base D → List (List ℕ) → Type 0
RealKeeps (Open journal) payloads = Keeps journal.disk.history journal.end payloads
RealKeeps (Gathering journal group) payloads = Keeps journal.disk.history journal.end payloads
RealKeeps (Closed disk) payloads = ⊥

-- the base keeps the payloads of ops that make a worksheet
abbrev pub KeepsSome : {D : Type 0} → (D → DiskView) → Base D → Type 0
KeepsSome view base = InModel (disk_of view base) ((ops : List Op) × KeepsIn base (codes_of ops) × Makes ops (sheet_of ops))

-- ops make the sheet, and while the store is open its journal keeps their payloads
pub record IsBaseOf {D : Type 0} (view : D → DiskView) (base : Base D)
    (sheet : Contents) : Type 0 where
  pub made : (ops : List Op) × Makes ops sheet
  pub kept : is_closed base ≡ false → InModel (disk_of view base) (KeepsSheet base sheet)
  pub owing : MayOweIn base

abbrev pub disk_in : {D : Type 0} → (D → DiskView) → Option (Base D) → DiskView
disk_in view None = no_disk
disk_in view (Some base) = disk_of view base

abbrev pub end_of_base : {D : Type 0} → Option (Base D) → ℕ
end_of_base None = 0
end_of_base (Some base) = end_in base

abbrev pub is_closed_store : {D : Type 0} → Option (Base D) → Bool
is_closed_store None = true
is_closed_store (Some base) = is_closed base

abbrev pub real_in : {D : Type 0} → (D → DiskView) → Option (Base D) → DiskView
real_in view None = no_disk
real_in view (Some base) = real_of view base

abbrev pub owed_in : {D : Type 0} → Option (Base D) → List (List ℕ)
owed_in None = []
owed_in (Some base) = owed_to base

abbrev pub gathers_in : {D : Type 0} → Option (Base D) → Bool
gathers_in None = false
gathers_in (Some base) = gathers base

abbrev pub start_of_base : {D : Type 0} → Option (Base D) → ℕ
start_of_base None = 0
start_of_base (Some base) = start_in base

abbrev pub place_in : {D : Type 0} → Option (Base D) → ℕ
place_in None = 5 + longest_payload
place_in (Some base) = place_for base

-- a store on a base, with this sheet
abbrev pub store_on : {D : Type 0} → (D → DiskView) → Option (Base D) → SheetView → StoreView
store_on view base sheet = record {
  disk = disk_in view base;
  end = end_of_base base;
  sheet = sheet;
  closed = is_closed_store base;
  real = real_in view base;
  owed = owed_in base;
  gathers = gathers_in base;
  start = start_of_base base;
  place = place_in base;
}

-- there is a base, and it is that of this sheet
abbrev pub IsStoreOf : {D : Type 0} → (D → DiskView) → Option (Base D) → Contents → Type 0
IsStoreOf view None sheet = ⊥
IsStoreOf view (Some base) sheet = IsBaseOf view base sheet

-- what each answer to payloads that are to be written in place of a base's own says
abbrev pub AgainAnswers : {D : Type 0} → (D → DiskView) → Base D → Base D → List (List ℕ) → Result Unit CheckpointFault → Type 0
AgainAnswers view old new payloads (Ok u) = (is_closed new ≡ false) × (end_in new ≡ end_of payloads) × ((disk_of view new).faults ≡ (disk_of view old).faults)
    × InModel (disk_of view old) ((before : List (List ℕ)) → KeepsIn old before → KeepsIn new payloads)
AgainAnswers view old new payloads (Err faults.Full) = (FitsAgain (disk_of view old).room payloads → ⊥) × (new ≡ old)
AgainAnswers view old new payloads (Err faults.OutOfMemory) = ⊥
AgainAnswers view old new payloads (Err faults.Disk) = (is_closed new ≡ true) × Rises (disk_of view old).faults (disk_of view new).faults
AgainAnswers view old new payloads (Err faults.Closed) = ⊥
