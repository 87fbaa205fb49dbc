-- A disk with a fuse.
use Rattle.std.specs.Prelude.{◌≡◌, ℕ, ◌+◌, ◌≤◌, min}
use Rattle.disk_model.specs.Disk.{DiskView, greatest_count}
use Rattle.disk_model.specs.declared.fuse.FuseMode.{FuseMode}
use Rattle.disk_model.specs.declared.fuse.FuseMode.TheVariants.{From, Only}

-- the disk inside, with the refused calls among its failures
abbrev pub fused : DiskView → ℕ → DiskView
fused v refused = record v { faults = min (v.faults + refused) greatest_count }

-- after so many calls the next one is the k-th or a later one, or the k-th
abbrev pub Blows : FuseMode → ℕ → ℕ → Type 0
Blows From k calls = k ≤ calls + 1
Blows Only k calls = calls + 1 ≡ k
