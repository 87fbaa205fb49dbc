-- Laws of disks.
use Rattle.std.specs.Prelude.{◌≡◌, ℕ}
use Rattle.disk_model.specs.Disk.{Image, IsRestarted, greatest_room}
use Rattle.disk_model.specs.Calls.{fresh}
use Rattle.disk_model.specs.declared.disk.TheConstants.{GREATEST_ROOM}

-- the constant that callers read is the limit of which the contracts speak
abbrev pub RoomIsSo : Type 0
RoomIsSo = GREATEST_ROOM ≡ greatest_room

-- a disk in memory that was just made is one that was started again, on the bytes that it was made
-- with
abbrev pub FreshIsRestarted : Type 0
FreshIsRestarted = (room : ℕ) (i : Image) → IsRestarted i (fresh room i)
