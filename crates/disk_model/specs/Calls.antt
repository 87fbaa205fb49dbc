-- The history of a disk in memory, from the record of its calls.
use Rattle.std.specs.Prelude.{◌≡◌, ℕ, true, nat_le, if◌then◌else◌, List, [], ◌∷◌, length}
use Rattle.disk_model.specs.Disk.{AreaState, DiskState, DiskView, History, Image, overwritten}
use Rattle.disk_model.specs.declared.disk.Area.{Area}
use Rattle.disk_model.specs.declared.disk.Area.TheVariants.{First, Second}
use Rattle.disk_model.specs.declared.memory.Call.{Call}
use Rattle.disk_model.specs.declared.memory.Call.TheVariants.{Look, Write, Sync}

-- an area whose bytes are all on the disk
abbrev pub settled : List ℕ → AreaState
settled bytes = record { content = bytes; synced = bytes; writes = [] }

-- an area after a write that begins within it
abbrev pub after_write : ℕ → List ℕ → AreaState → AreaState
after_write at bytes a =
    if nat_le at (length a.content) then record {
      content = overwritten a.content at bytes;
      synced = a.synced;
      writes = record { at = at; bytes = bytes } ∷ a.writes;
    } else a

abbrev pub after_sync : AreaState → AreaState
after_sync a = settled a.content

-- one area changes so
abbrev pub with_area : Area → (AreaState → AreaState) → DiskState → DiskState
with_area First f s = record { first = f s.first; second = s.second }
with_area Second f s = record { first = s.first; second = f s.second }

-- the state after a call
abbrev pub step : DiskState → Call → DiskState
step s Look = s
step s (Write area at bytes) = with_area area (after_write at bytes.items) s
step s (Sync area) = with_area area after_sync s

-- a moment later
abbrev pub advanced : History → DiskState → History
advanced h s = record { now = s; past = h.now ∷ h.past }

-- the history after these calls, each a moment
abbrev pub history_after : History → List Call → History
history_after h [] = h
history_after h (call ∷ calls) = history_after (advanced h (step h.now call)) calls

-- a disk that was made with these bytes
abbrev pub started_with : Image → History
started_with i = record {
  now = record { first = settled i.first; second = settled i.second };
  past = [];
}

-- a disk in memory of this room, made with these bytes, with no call so far
abbrev pub fresh : ℕ → Image → DiskView
fresh room i = record { room = room; faults = 0; keeps_model = true; history = started_with i }

-- new is old with one call more, which did this to the state
abbrev pub Notes : List Call → List Call → (DiskState → DiskState) → Type 0
Notes old new does = (h : History)
    → history_after h new ≡ advanced (history_after h old) (does (history_after h old).now)
