-- Payloads that are owed to a disk, and the disk as it would be if each of them had been appended by itself.
use Rattle.std.specs.Prelude.{ℕ, ◌+◌, List, [], ◌∷◌, ◌++◌, length}
use Rattle.disk_model.specs.Calls.{advanced, after_sync, after_write, with_area}
use Rattle.disk_model.specs.Disk.{DiskView, History, bytes_on}
use Rattle.disk_model.specs.declared.disk.Area.{Area}
use Rattle.journal.specs.Area.{body_of, closed_gate, open_gate}
use Rattle.journal.specs.Kept.{active_area}

-- a group as contracts see it: its payloads, and the bytes for which there is memory after them
pub record GroupView : Type 0 where
  pub payloads : List (List ℕ)
  pub place : ℕ

-- the history after a write that met no failure, and after a sync that met none
abbrev pub written_on : Area → ℕ → List ℕ → History → History
written_on area at bytes h = advanced h (with_area area (after_write at bytes) h.now)

abbrev pub synced_on : Area → History → History
synced_on area h = advanced h (with_area area after_sync h.now)

-- the history after the four calls of an append at this closed gate
abbrev pub appended_on : Area → ℕ → List ℕ → History → History
appended_on area end payload h = synced_on area (written_on area end (open_gate ∷ []) (synced_on area (written_on area (end + 1) (body_of payload ++ closed_gate ∷ []) h)))

-- the history after the appends of these payloads, one after another
abbrev pub owed_on : Area → ℕ → List (List ℕ) → History → History
owed_on area end [] h = h
owed_on area end (payload ∷ payloads) h = owed_on area (end + 5 + length payload) payloads (appended_on area end payload h)

-- a disk as it would be if these payloads had been appended at this end
abbrev pub owed_disk : DiskView → ℕ → List (List ℕ) → DiskView
owed_disk disk end payloads = record { room = disk.room; faults = disk.faults; keeps_model = disk.keeps_model; history = owed_on (active_area (bytes_on disk)) end payloads disk.history }
