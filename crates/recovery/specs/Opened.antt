-- The answers of an opening.
use Rattle.std.specs.Prelude.{◌≡◌, Result, Ok, Err}
use Rattle.disk_model.specs.Disk.{DiskView}
use Rattle.worksheet.specs.Contents.{Contents}
use Rattle.journal.specs.Open.{IsPassing}
use Rattle.journal.specs.declared.journal.OpenFault.{OpenFault}
use Rattle.recovery.specs.Sheets.{StoreView}

-- the disk that an opening leaves
abbrev pub disk_left : {D : Type 0} → (D → DiskView) → Result StoreView (OpenFault D) → DiskView
disk_left view (Ok store) = store.disk
disk_left view (Err fault) = view fault.disk

-- this sheet, or a cause that isn't in the bytes
abbrev pub GivesSheet : {D : Type 0} → Contents → Result StoreView (OpenFault D) → Type 0
GivesSheet sheet (Ok store) = store.sheet.contents ≡ sheet
GivesSheet sheet (Err fault) = IsPassing fault.cause
