-- The front of a journal: its whole records, up to the first gate that is closed or damaged
-- (docs/trust/FORMAT.md, "Rescue").
use Rattle.std.specs.Prelude.{◌≡◌, ℕ, Bool, true, false, List, ◌∷◌, ◌++◌, Option, Some, None}
use Rattle.disk_model.specs.Disk.{DiskView, Image, bytes_on}
use Rattle.journal.specs.Area.{HasHeader, StandsFor, end_of, open_gate}
use Rattle.journal.specs.Damage.{IsBroken, Walked}
use Rattle.journal.specs.Kept.{active_of}
use Rattle.journal.specs.Limits.{longest_payload}
use Rattle.journal.specs.declared.opening.OpenCause.{OpenCause}
use Rattle.journal.specs.declared.opening.OpenCause.TheVariants as opens

-- after its header an area has the records of these payloads, and then a gate that is closed, or
-- one that is damaged
abbrev pub HasFront : ℕ → List ℕ → List (List ℕ) → Bool → Type 0
HasFront limit bytes payloads false = StandsFor limit bytes payloads
HasFront limit bytes payloads true = (more : List ℕ)
    × Walked limit bytes payloads (open_gate ∷ more) × IsBroken limit more

-- area First of an image has a header, and a byte after it, and the active area has this front
pub record ImageHasFront (i : Image) (payloads : List (List ℕ)) (damaged : Bool) : Type 0 where
  pub headed : HasHeader i.first
  pub front : HasFront longest_payload (active_of i) payloads damaged

-- the offset of a gate, where it is damaged
abbrev pub damage_at : Bool → ℕ → Option ℕ
damage_at false gate = None
damage_at true gate = Some gate

-- why an image has no front: no header stands in area First or in the active one; else the cause isn't
-- in the bytes
abbrev pub TellsHeader : Image → OpenCause → Type 0
TellsHeader i (opens.Damaged gate) = ⊥
TellsHeader i opens.NotASheet = HasHeader i.first → HasHeader (active_of i) → ⊥
TellsHeader i opens.Disk = Unit {0}
TellsHeader i opens.OutOfMemory = Unit {0}

-- a front as contracts see it: its disk, the offsets of the gate of the next payload and of the gate
-- after all whole records, and whether that one is damaged
pub record FrontView : Type 0 where
  pub disk : DiskView
  pub gate : ℕ
  pub end : ℕ
  pub damaged : Bool

-- It has given these payloads, and these are left: they are those of the whole records on its disk, and
-- the next gate is the one after the given ones.
pub record HasGivenFront (front : FrontView) (given left : List (List ℕ)) : Type 0 where
  pub has : ImageHasFront (bytes_on front.disk) (given ++ left) front.damaged
  pub end_is : front.end ≡ end_of (given ++ left)
  pub gate_is : front.gate ≡ end_of given
