-- The area in which a journal works. No public clause speaks of it.
use Rattle.std.specs.Prelude.{◌≡◌, ℕ, ◌<◌, length}
use Rattle.disk_model.specs.Disk.{Image, area_of}
use Rattle.disk_model.specs.declared.disk.Area.{Area}
use Rattle.journal.specs.Area.{first_gate}
use Rattle.journal.specs.Kept.{active_area}

-- the selector in area First names this one, and there is a byte after that header
pub record IsActive (active : Area) (i : Image) : Type 0 where
  pub named : active_area i ≡ active
  pub headed : first_gate < length i.first

-- and the gate at `end` stands within it
pub record HasEnd (active : Area) (end : ℕ) (i : Image) : Type 0 where
  pub active_is : IsActive active i
  pub within : end < length (area_of active i)
