-- A disk in memory as contracts see it.
use Rattle.std.specs.Prelude.{◌≡◌, ◌+◌, min, true, MatchResult, Result}
use Rattle.disk_model.specs.Disk.{DiskState, DiskView, Image, greatest_count}
use Rattle.disk_model.specs.Calls.{advanced, history_after, started_with}
use Rattle.disk_model.specs.declared.memory.MemoryDisk.{MemoryDisk}

-- the bytes that it was made with
abbrev pub start_of : MemoryDisk → Image
start_of m = record { first = m.first_start.items; second = m.second_start.items }

-- it keeps the model, and its history is that of the calls on record
abbrev pub view_of : MemoryDisk → DiskView
view_of m = record {
  room = m.room;
  faults = m.faults;
  keeps_model = true;
  history = history_after (started_with (start_of m)) m.calls.items;
}

-- one call, which did this to the state: recorded as one moment more at Ok, else without a trace
-- but one failure more
abbrev pub Records : {T E : Type 0} → Result T E → (DiskState → DiskState) → DiskView → DiskView
    → Type 0
Records result does old new = MatchResult result
    (λ _. (new.history ≡ advanced old.history (does old.history.now)) × (new.faults ≡ old.faults))
    (λ _. (new.history ≡ old.history) × (new.faults ≡ min (old.faults + 1) greatest_count))
