-- A file in memory as contracts see it: the calls on record, each with its moment.
use Rattle.std.specs.Prelude.{◌≡◌, ℕ, ◌+◌, true, false, nat_lt, if◌then◌else◌, List, [], ◌∷◌}
use Rattle.disk_model.specs.Disk.{AreaState}
use Rattle.disk_model.specs.Calls.{after_sync, after_write, settled}
use Rattle.sheet_files.specs.DiskFile.{FileView, IsStill, Passes}
use Rattle.sheet_files.specs.declared.memory_file.FileCall.{FileCall}
use Rattle.sheet_files.specs.declared.memory_file.Deed.{Deed}
use Rattle.sheet_files.specs.declared.memory_file.Deed.TheVariants.{Write, Sync}

-- what a call does to the file
abbrev pub done : Deed → AreaState → AreaState
done (Write at bytes) a = after_write at bytes.items a
done Sync a = after_sync a

-- it does so where it was made before that moment
abbrev pub done_before : ℕ → FileCall → AreaState → AreaState
done_before t call a = if nat_lt call.moment t then done call.deed a else a

-- the state before a moment, by the record in the order of its calls
abbrev pub replayed : ℕ → List FileCall → AreaState → AreaState
replayed t [] a = a
replayed t (call ∷ calls) a = replayed t calls (done_before t call a)

-- a file that was made with these bytes, to be written too, after these calls
abbrev pub memory_view : List ℕ → List FileCall → FileView
memory_view start calls = record {
  keeps_model = true;
  reads_only = false;
  lost = false;
  before = λ t. replayed t calls (settled start);
}

-- new is old with one call more, at that moment, which did this
pub record Noted (moment : ℕ) (does : AreaState → AreaState) (old new : FileView) : Type 0 where
  pub passes : Passes moment old new
  pub after : new.before (moment + 1) ≡ does (old.before moment)

-- the same, of whatever bytes the file was made with
abbrev pub NotesCall : ℕ → (AreaState → AreaState) → List FileCall → List FileCall → Type 0
NotesCall moment does old new = (start : List ℕ) → IsStill moment (memory_view start old)
    → Noted moment does (memory_view start old) (memory_view start new)
