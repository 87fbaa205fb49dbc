-- What was there before a call of a program, and what an image is that is left with one act more. (docs/trust/THEOREM.md; premises A1 to A7 in the README of
-- crate `theorem`.)
use Rattle.std.specs.Prelude.{List, [], ◌∷◌, ◌++◌}
use Rattle.disk_model.specs.Disk.{DiskView, History, Image, bytes_on}
use Rattle.worksheet.specs.declared.op.Op.{Op}
use Rattle.worksheet.specs.Contents.{Contents}
use Rattle.worksheet.specs.Ops.{sheet_of}
use Rattle.worksheet.specs.Checks.{Allowed}
use Rattle.recovery.specs.Sheets.{IsSheetImage}
use Rattle.theorem.specs.Story.{CrashedSince}
use Rattle.theorem.specs.Acts.{Act, Did, Uses}

-- What was there before: an image of a worksheet of allowed ops at first (A2), and uses of the program that led from it to the bytes that are read on this
-- disk now (A3 to A5).
pub record EarlierUses (disk : DiskView) : Type 0 where
  pub ops : List Op
  pub image : Image
  pub acts : List Act
  pub allowed : Allowed ops
  pub found : IsSheetImage (sheet_of ops) image
  pub came : Uses disk.room image acts (bytes_on disk)

-- With this act as the last the uses led to this image. It is one of the worksheet that they left: after a prefix of the events of each run, with all that
-- it reported, and with the answers that acceptances put in.
pub record LeftWith (disk : DiskView) (e : EarlierUses disk) (act : Act) (after : Image) : Type 0 where
  pub goes_on : Uses disk.room e.image (e.acts ++ act ∷ []) after
  pub sheet : Contents
  pub did : Did disk.room e.image (sheet_of e.ops) (e.acts ++ act ∷ []) after sheet
  pub image : IsSheetImage sheet after

-- wherever a crash comes from this moment of the disk to that one (A5), it leaves such an image
abbrev pub CrashesLeave : (disk : DiskView) → EarlierUses disk → Act → History → History → Type 0
CrashesLeave disk e act from to = (after : Image) → CrashedSince from to after → LeftWith disk e act after
