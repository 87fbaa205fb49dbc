-- What a window shows of an area. No public clause speaks of it.
use Rattle.std.specs.Prelude.{◌≡◌, ℕ, List, length, drop}
use Rattle.disk_model.specs.Disk.{Image, DiskState, Leaves, area_of}
use Rattle.journal.specs.Area.{HasHeader}
use Rattle.journal.specs.Kept.{active_area, active_of}
use Rattle.journal.specs.inside.Active.{IsActive}
use Rattle.journal.specs.inside.Reads.{Begins}
use Rattle.journal.specs.declared.window.Window.{Window}

-- the window reads up to the area's end, and its bytes are those of the area from its start on
pub record Shows (window : Window) (area : List ℕ) : Type 0 where
  pub limit : window.limit ≡ length area
  pub bytes : Begins window.bytes.items (drop window.start area)

-- area First and the active area of these bytes are durable
pub record IsDurable (i : Image) (s : DiskState) : Type 0 where
  pub first : Leaves (λ j. j.first ≡ i.first) s
  pub active : Leaves (λ j. area_of (active_area i) j ≡ active_of i) s

-- the window is on the active area, which has a header as area First has; both are durable
pub record IsOnActive (window : Window) (i : Image) (s : DiskState) : Type 0 where
  pub active : IsActive window.area i
  pub headed : HasHeader i.first
  pub header : HasHeader (area_of window.area i)
  pub shows : Shows window (area_of window.area i)
  pub first : Leaves (λ j. j.first ≡ i.first) s
  pub durable : Leaves (λ j. area_of window.area j ≡ area_of window.area i) s
