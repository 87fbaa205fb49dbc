-- The image that a choice names (docs/trust/FORMAT.md, "Crashes in tests").
use Rattle.std.specs.Prelude.{◌≡◌, ℕ, ◌+◌, ◌-◌, Bool, if◌then◌else◌, List, [], ◌∷◌, ◌++◌, length, take, replicate}
use Rattle.disk_model.specs.Disk.{AreaState, AtMoment, DiskState, DiskView, Image, IsImage, IsRestarted, Written, overwritten, bytes_on}
use Rattle.disk_model.specs.Calls.{fresh}
use Rattle.disk_model.specs.declared.crash.Fill.{Fill}
use Rattle.disk_model.specs.declared.crash.Fill.TheVariants.{Old, New, Torn, Byte}

-- the bytes that a write has left in its range, from its start on
abbrev pub left_by : Fill → List ℕ → List ℕ
left_by Old bytes = []
left_by New bytes = bytes
left_by (Torn n) bytes = take n bytes
left_by (Byte b) bytes = replicate (length bytes) b

-- an area after a write that left this; bytes that never were are 0
abbrev pub laid : Fill → Written → List ℕ → List ℕ
laid fill w old = overwritten (old ++ replicate (w.at + length w.bytes - length old) 0) w.at
    (left_by fill w.bytes)

-- on what the last sync left, the later writes in the order of their calls
abbrev pub all_laid : Fill → List ℕ → List Written → List ℕ
all_laid fill synced [] = synced
all_laid fill synced (w ∷ earlier) = laid fill w (all_laid fill synced earlier)

-- that, at the new length where it has grown, else at the old one
abbrev pub image_of : Fill → Bool → AreaState → List ℕ
image_of fill grown a =
    if grown then all_laid fill a.synced a.writes
    else take (length a.synced) (all_laid fill a.synced a.writes)

-- so for both areas
abbrev pub image_named : Fill → Bool → DiskState → Image
image_named fill grown s = record {
  first = image_of fill grown s.first;
  second = image_of fill grown s.second;
}

-- new is a disk as old is left by a crash at this moment: as made with the image that the choice
-- names, which is one that a crash may leave there, and started again on it
pub record Crashed (moment : ℕ) (fill : Fill) (grown : Bool) (old new : DiskView) : Type 0 where
  pub state : DiskState
  pub at_moment : AtMoment moment old.history state
  pub named : new ≡ fresh old.room (image_named fill grown state)
  pub image : IsImage state (bytes_on new)
  pub restarted : IsRestarted (bytes_on new) new
