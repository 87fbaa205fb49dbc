-- The answers of a front's calls.
use Rattle.std.specs.Prelude.{◌≡◌, ℕ, ◌+◌, ◌≤◌, List, [], ◌∷◌, ◌++◌, length, Result, Ok, Err}
use Rattle.disk_model.specs.Disk.{DiskView}
use Rattle.journal.specs.Area.{IsPayload}
use Rattle.journal.specs.Front.{FrontView, HasGivenFront, damage_at}
use Rattle.journal.specs.Limits.{longest_payload}
use Rattle.journal.specs.declared.journal.OpenFault.{OpenFault}
use Rattle.journal.specs.declared.front.InFront.{InFront}
use Rattle.journal.specs.declared.front.InFront.TheVariants as next

-- the disk that a begun front leaves
abbrev pub disk_of_front : {D : Type 0} → (D → DiskView) → Result FrontView (OpenFault D) → DiskView
disk_of_front view (Ok front) = front.disk
disk_of_front view (Err fault) = view fault.disk

-- the disk that the next payload, or the end, leaves
abbrev pub disk_in_front : {D : Type 0} → (D → DiskView) → Result (InFront D) (OpenFault D) → DiskView
disk_in_front view (Ok (next.Payload front payload)) = front.disk
disk_in_front view (Ok (next.End disk damage)) = view disk
disk_in_front view (Err fault) = view fault.disk

-- of the payloads that were left, the first one, which is then given; or that none was left
abbrev pub GivesInFront : {D : Type 0} → List (List ℕ) → List (List ℕ)
    → Result (InFront D) (OpenFault D) → Type 0
GivesInFront given left (Ok (next.Payload front payload)) = (others : List (List ℕ))
    × (left ≡ payload.bytes ∷ others) × HasGivenFront front (given ++ payload.bytes ∷ []) others
GivesInFront given left (Ok (next.End disk damage)) = left ≡ []
GivesInFront given left (Err fault) = Unit {0}

-- Over any disk: a payload names the gate at which it was next, and has a payload's length. The next
-- gate is the one after its record, at most at the end. At the end that gate is returned where it is
-- damaged.
abbrev pub StepsInFront : {D : Type 0} → FrontView → Result (InFront D) (OpenFault D) → Type 0
StepsInFront old (Ok (next.Payload front payload)) = (payload.gate ≡ old.gate)
    × IsPayload longest_payload payload.bytes × (front.gate ≡ old.gate + 5 + length payload.bytes)
    × (front.gate ≤ front.end) × (front.end ≡ old.end) × (front.damaged ≡ old.damaged)
StepsInFront old (Ok (next.End disk damage)) = damage ≡ damage_at old.damaged old.end
StepsInFront old (Err fault) = Unit {0}
