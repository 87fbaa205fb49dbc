-- What a refused opening or creation tells of the disk.
use Rattle.std.specs.Prelude.{◌≡◌, []}
use Rattle.disk_model.specs.Disk.{Image}
use Rattle.journal.specs.Area.{HasHeader}
use Rattle.journal.specs.Damage.{IsDamaged}
use Rattle.journal.specs.Kept.{active_of}
use Rattle.journal.specs.Limits.{longest_payload}
use Rattle.journal.specs.declared.opening.OpenCause.{OpenCause}
use Rattle.journal.specs.declared.opening.OpenCause.TheVariants.{Damaged, NotASheet, Disk, OutOfMemory}

-- neither area has a byte
abbrev pub AreEmpty : Image → Type 0
AreEmpty i = (i.first ≡ []) × (i.second ≡ [])

-- what a cause says of a disk: the first gate of the active area that is damaged, or that no header
-- stands in area First or in the active one
abbrev pub Tells : Image → OpenCause → Type 0
Tells i (Damaged gate) = IsDamaged longest_payload (active_of i) gate
Tells i NotASheet = HasHeader i.first → HasHeader (active_of i) → ⊥
Tells i Disk = Unit {0}
Tells i OutOfMemory = Unit {0}

-- a cause that isn't in the bytes
abbrev pub IsPassing : OpenCause → Type 0
IsPassing (Damaged gate) = ⊥
IsPassing NotASheet = ⊥
IsPassing Disk = Unit {0}
IsPassing OutOfMemory = Unit {0}
