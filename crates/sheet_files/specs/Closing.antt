-- How a program sees a disk that it closes at its end.
use Rattle.disk_model.specs.Disk.{DiskView}

-- what contracts see of a disk, and that one was closed as it is
pub record Closable (D : Type 0) : Type 1 where
  pub view : D → DiskView
  pub closed : D → Type 0

abbrev pub closable : {D : Type 0} → (D → DiskView) → (D → Type 0) → Closable D
closable view closed = record { view = view; closed = closed }
