-- Rewriting a journal into the area that isn't active. No public clause speaks of it.
use Rattle.std.specs.Prelude.{◌≡◌, ℕ, ◌≤◌, List, length, take}
use Rattle.disk_model.specs.Disk.{Image, DiskState, DiskView, History, IsImage, Leaves, area_of, content_of, other_area}
use Rattle.disk_model.specs.declared.disk.Area.{Area}
use Rattle.disk_model.specs.declared.disk.Area.TheVariants.{First, Second}
use Rattle.journal.specs.Area.{StandsFor, first_gate, names_first, names_second}
use Rattle.journal.specs.Kept.{ImageStandsFor, active_area}
use Rattle.journal.specs.Limits.{longest_payload}

-- the selector that names an area
abbrev pub naming : Area → ℕ
naming First = names_first
naming Second = names_second

-- Writes of this area have spared the header in area First, and the other area.
abbrev pub SparedBy : Area → Image → Image → Type 0
SparedBy First old new = (take first_gate new.first ≡ take first_gate old.first) × (length old.first ≤ length new.first) × (new.second ≡ old.second)
SparedBy Second old new = new.first ≡ old.first

abbrev pub Spares : Area → DiskState → Image → Type 0
Spares area s i = (j : Image) × IsImage s j × SparedBy area j i

-- Each image stands for the payloads from before, in the other area; this area is rewritten for these payloads, and durable.
pub record IsReadyToActivate (area : Area) (before payloads : List (List ℕ)) (h : History) : Type 0 where
  pub stands : Leaves (λ i. ImageStandsFor i before) h.now
  pub named : Leaves (λ i. active_area i ≡ other_area area) h.now
  pub here : ImageStandsFor (content_of h) before
  pub laid : StandsFor longest_payload (area_of area (content_of h)) payloads
  pub durable : Leaves (λ i. area_of area i ≡ area_of area (content_of h)) h.now

-- calls that met no failure
pub record Went (old new : DiskView) : Type 0 where
  pub room : new.room ≡ old.room
  pub keeps_model : new.keeps_model ≡ old.keeps_model
  pub steady : new.faults ≡ old.faults
