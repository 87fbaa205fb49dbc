-- The answers of a journal's calls.
use Rattle.std.specs.Prelude.{◌≡◌, ℕ, List, Result, Ok, Err}
use Rattle.disk_model.specs.Disk.{DiskView}
use Rattle.journal.specs.Kept.{JournalView}
use Rattle.journal.specs.Open.{IsPassing}
use Rattle.journal.specs.Payloads.{payloads_in}
use Rattle.journal.specs.declared.walk.Payload.{Payload}
use Rattle.std.specs.declared.alloc.Global.{Global}
use Rattle.std.specs.Prelude.{Vec}
use Rattle.journal.specs.declared.journal.OpenFault.{OpenFault}
use Rattle.journal.specs.declared.opening.CreateFault.{CreateFault}
use Rattle.journal.specs.declared.journal.AppendFault.{AppendFault}
use Rattle.journal.specs.declared.journal.AppendFault.TheVariants as faults

-- the disk that a creation leaves
abbrev pub disk_created : {D : Type 0} → (D → DiskView) → Result JournalView (CreateFault D) → DiskView
disk_created view (Ok journal) = journal.disk
disk_created view (Err fault) = view fault.disk

-- the disk that an append leaves
abbrev pub disk_after : {D : Type 0} → (D → DiskView) → Result JournalView (AppendFault D)
    → DiskView
disk_after view (Ok journal) = journal.disk
disk_after view (Err (faults.JournalFull journal)) = journal.disk
disk_after view (Err (faults.Disk disk)) = view disk

-- the payload didn't fit
abbrev pub IsFull : {D : Type 0} → Result JournalView (AppendFault D) → Type 0
IsFull (Err (faults.JournalFull journal)) = Unit {0}
IsFull other = ⊥

-- the disk failed
abbrev pub IsFaulty : {D : Type 0} → Result JournalView (AppendFault D) → Type 0
IsFaulty (Err (faults.Disk disk)) = Unit {0}
IsFaulty other = ⊥

-- a journal that is handed back is this one
abbrev pub HandsBack : {D : Type 0} → Result JournalView (AppendFault D) → JournalView → Type 0
HandsBack (Err (faults.JournalFull journal)) old = journal ≡ old
HandsBack other old = Unit {0}

-- the disk that an opening leaves
abbrev pub opened : {D T : Type 0} → (D → DiskView) → Result (JournalView × T) (OpenFault D)
    → DiskView
opened view (Ok found) = found.0.disk
opened view (Err fault) = view fault.disk

-- these payloads, or a cause that isn't in the bytes
abbrev pub GivesPayloads : {D : Type 0} → List (List ℕ)
    → Result (JournalView × Vec Payload Global) (OpenFault D) → Type 0
GivesPayloads payloads (Ok found) = payloads_in found.1.items ≡ payloads
GivesPayloads payloads (Err fault) = IsPassing fault.cause
