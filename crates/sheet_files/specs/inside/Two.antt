-- What a read of two files gives is an image of them. No public clause speaks of it: `FileDisk` cites
-- it where it meets the trait.
use Rattle.std.specs.Prelude.{ℕ, Bool, true, false, ◌&&◌, IsTrue, Option, Some, None, refl}
use Rattle.disk_model.specs.Disk.{IsImage, content_of, unclaimed}
use Rattle.sheet_files.specs.DiskFile.{FileView, FileImage, InFile, IsStill, Now, both_before, history_of, second_of}

pub both_keep : (a b : Bool) → IsTrue (a && b) → IsTrue a × IsTrue b
both_keep true b h = (refl, h)
both_keep false b h = unclaimed h

-- what a read of a file gives is an image of it
abbrev pub ContentStays : FileView → Type 0
ContentStays v = InFile v (Now v (λ a. FileImage a a.content))

pub second_stays : {F : Type 0} (view : F → FileView) → ((file : F) → ContentStays (view file))
    → (second : Option F) → ContentStays (second_of view second)
second_stays view law None = λ kept moment still. refl
second_stays view law (Some file) = law file

-- a file of which that is so, and to which nothing has happened since that moment
pub record Rests (moment : ℕ) (v : FileView) : Type 0 where
  pub still : IsStill moment v
  pub stays : ContentStays v

pub content_is_image : (moment : ℕ) (first second : FileView) → Rests moment first → Rests moment second
    → IsTrue (first.keeps_model && second.keeps_model)
    → IsImage (both_before first second moment) (content_of (history_of moment first second))
content_is_image moment first second one other kept =
    let both = both_keep first.keeps_model second.keeps_model kept in
    (one.stays both.0 moment one.still, other.stays both.1 moment other.still)
