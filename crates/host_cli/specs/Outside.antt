-- How what is outside is seen by the clauses of a task.
use Rattle.std.specs.Prelude.{ℕ, Bool, List, Option}
use Rattle.std.specs.declared.io.Read as read
use Rattle.std.specs.declared.io.Write as write
use Rattle.disk_model.specs.Disk.{DiskView}
use Rattle.disk_model.specs.declared.disk.Disk as disks
use Rattle.driver.specs.Place.{SourceRules}
use Rattle.sheet_files.specs.Closing.{Closable, closable}
use Rattle.sheet_files.specs.declared.places.Places as places

-- What the streams give and hold, what the output held while a disk was in which state, what is said on them, and that what was written goes out.
pub record StreamsSeen (I W E : Type 0) : Type 1 where
  pub stream : I → Option (List ℕ)
  pub written : W → Option (List ℕ)
  pub held : Option (List ℕ) → DiskView → Type 0
  pub flushed : W → Bool → W → Type 0
  pub shown : W → Option (List ℕ) → Bool → W → Type 0
  pub said : E → Option (List ℕ)
  pub tried : E → Option (List ℕ) → Bool → E → Type 0

-- What the output holds, and what calls on it may lead to.
pub record OutputSeen (W : Type 0) : Type 1 where
  pub written : W → Option (List ℕ)
  pub held : Option (List ℕ) → DiskView → Type 0
  pub flushed : W → Bool → W → Type 0
  pub shown : W → Option (List ℕ) → Bool → W → Type 0

abbrev pub output_seen : {W : Type 0} → write.Ghosts W → (Option (List ℕ) → DiskView → Type 0) → (W → Bool → W → Type 0) → (W → Option (List ℕ) → Bool → W → Type 0) → OutputSeen W
output_seen w held flushed shown = record { written = w.contents; held = held; flushed = flushed; shown = shown }

abbrev pub streams_seen : {I W E : Type 0} → read.Ghosts I → OutputSeen W → write.Ghosts E → (E → Option (List ℕ) → Bool → E → Type 0) → StreamsSeen I W E
streams_seen i w e t = record { stream = i.remaining; written = w.written; held = w.held; flushed = w.flushed; shown = w.shown; said = e.contents; tried = t }

abbrev pub disks_seen : {D : Type 0} → disks.Ghosts D → (D → Type 0) → Closable D
disks_seen d closed = closable d.view closed

-- How what is outside is seen, and what calls on it may lead to.
pub record OutsideView (D P S I W E : Type 0) : Type 1 where
  pub places : places.Ghosts P D
  pub disks : Closable D
  pub sources : SourceRules S
  -- the sources before they begin to write out what is no answer yet, and after
  pub begins : S → S → Type 0
  pub streams : StreamsSeen I W E

abbrev pub outside_view : {D P S I W E : Type 0} → places.Ghosts P D → Closable D → SourceRules S → (S → S → Type 0) → StreamsSeen I W E → OutsideView D P S I W E
outside_view p d s b t = record { places = p; disks = d; sources = s; begins = b; streams = t }
