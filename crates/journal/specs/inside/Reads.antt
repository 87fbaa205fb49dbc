-- Calls that read a disk. No public clause speaks of them.
use Rattle.std.specs.Prelude.{◌≡◌, ℕ, List, ◌++◌, Result, Ok, Err}
use Rattle.disk_model.specs.Disk.{DiskView, InModel, Looks, Rises, SameDisk}
use Rattle.journal.specs.declared.opening.OpenCause.{OpenCause}
use Rattle.journal.specs.declared.opening.OpenCause.TheVariants as opens

-- the most bytes of a read
abbrev pub longest_read : ℕ
longest_read = 65536

-- the bytes begin with these
abbrev pub Begins : List ℕ → List ℕ → Type 0
Begins front bytes = (more : List ℕ) × (bytes ≡ front ++ more)

-- a failure of the disk is answered
abbrev pub Fails : {T : Type 0} → Result T OpenCause → Type 0
Fails (Ok x) = ⊥
Fails (Err cause) = cause ≡ opens.Disk

-- they change no byte, and a failure was counted just where one is answered
pub record Reads (failed : Type 0) (old new : DiskView) : Type 0 where
  pub same : SameDisk old new
  pub looks : InModel old (Looks old.history new.history)
  pub faulty : failed → Rises old.faults new.faults
  pub steady : (failed → ⊥) → new.faults ≡ old.faults
