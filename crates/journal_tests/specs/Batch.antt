-- Payloads that are appended one after another. No public clause speaks of them: a test shows by
-- them how a layer above carries the promises of `append` on.
use Rattle.std.specs.Prelude.{ℕ, ◌≤◌, List, ◌++◌, length, take}
use Rattle.disk_model.specs.Disk.{Image, InModel, LeavesOnly, SameDisk}
use Rattle.journal.specs.Kept.{JournalView, Keeps, ImageStandsFor}

-- the image stands for these payloads and the first ones of more
abbrev pub SomeFirst : List (List ℕ) → List (List ℕ) → Image → Type 0
SomeFirst payloads more i = (n : ℕ) × (n ≤ length more) × ImageStandsFor i (payloads ++ take n more)

-- since old, the first n of more were appended
pub record Appended (old new : JournalView) (more : List (List ℕ)) (n : ℕ) : Type 0 where
  pub same : SameDisk old.disk new.disk
  pub kept : InModel old.disk ((payloads : List (List ℕ)) → Keeps old.disk.history old.end payloads
      → Keeps new.disk.history new.end (payloads ++ take n more))
  pub moments : InModel old.disk
      ((payloads : List (List ℕ)) → Keeps old.disk.history old.end payloads
      → LeavesOnly (SomeFirst payloads more) old.disk.history new.disk.history)
