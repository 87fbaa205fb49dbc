-- What an event does to the disk of a host.
use Rattle.disk_model.specs.Disk.{DiskView, InModel, Leaves, SameDisk}
use Rattle.recovery.specs.Sheets.{IsSheetImage}
use Rattle.session_engine.specs.World.{World, sheet_in}
use Rattle.session_engine.specs.Does.{Does}
use Rattle.session_engine.specs.Host.{OnDisk}

-- each image of the disk is one of the world's worksheet
abbrev pub HoldsSheet : World → DiskView → Type 0
HoldsSheet w disk = InModel disk (Leaves (IsSheetImage (sheet_in w)) disk.history.now)

-- An event did this, and led from this world to that one. One that neither gives an op nor rewrites the journal made no call on
-- the disk. While one that gives an op went on, each image at every moment was one of the worksheet before it, or of that with the
-- op; while the journal was rewritten, each was one of the same worksheet. After the event each is one of that world's.
pub record Kept (w : World) (did : Does) (v : World) (old new : DiskView) : Type 0 where
  pub same : SameDisk old new
  pub moments : OnDisk w.ops did.again did.op old new
  pub holds : HoldsSheet v new
