-- A host that was opened on a disk.
use Rattle.std.specs.Prelude.{◌≡◌, ℕ, List}
use Rattle.disk_model.specs.Disk.{DiskView, InModel, Looks, bytes_on}
use Rattle.worksheet.specs.declared.op.Op.{Op}
use Rattle.worksheet.specs.Ops.{sheet_of}
use Rattle.worksheet.specs.Checks.{Allowed}
use Rattle.recovery.specs.Sheets.{IsSheetImage}
use Rattle.session_engine.specs.World.{World, world_at_opening}
use Rattle.session_engine.specs.Host.{EndsAt}

-- The world of a host that was opened on this disk: that of the allowed ops of the worksheet found there. The opening changed no byte, and
-- no moment of it left an image that is new; this is the disk after it.
pub record OpenedOn (disk : DiskView) (w : World) (opened : DiskView) : Type 0 where
  pub ops : List Op
  pub end : ℕ
  pub allowed : Allowed ops
  pub is : w ≡ world_at_opening ops disk.room end
  pub found : InModel disk (IsSheetImage (sheet_of ops) (bytes_on disk))
  pub ends : InModel disk (EndsAt (bytes_on disk) end)
  pub looks : InModel disk (Looks disk.history opened.history)
