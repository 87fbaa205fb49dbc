-- A worksheet that is written to an empty disk.
use Rattle.std.specs.Prelude.{◌⊎◌, [], Result, Ok, Err}
use Rattle.disk_model.specs.Disk.{ChangesArea, DiskState, DiskView, Image, Reaches, Torn}
use Rattle.disk_model.specs.declared.disk.Area.TheVariants.{First}
use Rattle.worksheet.specs.Contents.{Contents}
use Rattle.worksheet.specs.Ops.{sheet_of}
use Rattle.recovery.specs.Sheets.{IsSheetImage}
use Rattle.recovery.specs.declared.saving.SaveFault.{SaveFault}

-- The image is one from before, with the eleven bytes of area First torn, as a creation that is cut off
-- leaves it; or one of the empty worksheet, or of this one.
abbrev pub IsBeingSaved : DiskState → Contents → Image → Type 0
IsBeingSaved s sheet i = Reaches (ChangesArea First (Torn 0 11)) s i
    ⊎ (IsSheetImage (sheet_of []) i ⊎ IsSheetImage sheet i)

-- the disk that it leaves
abbrev pub disk_saved : {D : Type 0} → (D → DiskView) → Result D (SaveFault D) → DiskView
disk_saved view (Ok disk) = view disk
disk_saved view (Err fault) = view fault.disk
