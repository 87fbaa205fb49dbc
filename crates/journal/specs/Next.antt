-- The answers of an opening's calls.
use Rattle.std.specs.Prelude.{◌≡◌, ℕ, ◌+◌, ◌≤◌, List, [], ◌∷◌, ◌++◌, length, Result, Ok, Err}
use Rattle.disk_model.specs.Disk.{DiskView}
use Rattle.journal.specs.Area.{IsPayload}
use Rattle.journal.specs.Kept.{Keeps}
use Rattle.journal.specs.Limits.{longest_payload}
use Rattle.journal.specs.Open.{IsPassing}
use Rattle.journal.specs.Opening.{OpeningView, HasGiven}
use Rattle.journal.specs.declared.journal.OpenFault.{OpenFault}
use Rattle.journal.specs.declared.payloads.Next.{Next}
use Rattle.journal.specs.declared.payloads.Next.TheVariants as next

-- the disk that a begun opening leaves
abbrev pub disk_begun : {D : Type 0} → (D → DiskView) → Result OpeningView (OpenFault D) → DiskView
disk_begun view (Ok opening) = opening.disk
disk_begun view (Err fault) = view fault.disk

-- an opening that has given none of these payloads, or a cause that isn't in the bytes
abbrev pub BeginsPayloads : {D : Type 0} → List (List ℕ) → Result OpeningView (OpenFault D)
    → Type 0
BeginsPayloads payloads (Ok opening) = HasGiven opening [] payloads
BeginsPayloads payloads (Err fault) = IsPassing fault.cause

-- the disk that the next payload, or the end, leaves
abbrev pub opening_disk : {D : Type 0} → (D → DiskView) → Result (Next D) (OpenFault D) → DiskView
opening_disk view (Ok (next.Payload opening payload)) = opening.disk
opening_disk view (Ok (next.End journal)) = journal.disk
opening_disk view (Err fault) = view fault.disk

-- of the payloads that were left, the first one, which is then given; or that none was left, and a
-- journal of all that were given
abbrev pub GivesNext : {D : Type 0} → List (List ℕ) → List (List ℕ) → Result (Next D) (OpenFault D)
    → Type 0
GivesNext given left (Ok (next.Payload opening payload)) = (others : List (List ℕ))
    × (left ≡ payload.bytes ∷ others) × HasGiven opening (given ++ payload.bytes ∷ []) others
GivesNext given left (Ok (next.End journal)) =
    (left ≡ []) × Keeps journal.disk.history journal.end given
GivesNext given left (Err fault) = Unit {0}

-- Over any disk: a payload names the gate at which it was next, and has a payload's length. The next
-- gate is the one after its record, at most at the end. The journal's end is that of the opening.
abbrev pub StepsOn : {D : Type 0} → OpeningView → Result (Next D) (OpenFault D) → Type 0
StepsOn old (Ok (next.Payload opening payload)) = (payload.gate ≡ old.gate)
    × IsPayload longest_payload payload.bytes × (opening.gate ≡ old.gate + 5 + length payload.bytes)
    × (opening.gate ≤ opening.end) × (opening.end ≡ old.end)
StepsOn old (Ok (next.End journal)) = journal.end ≡ old.end
StepsOn old (Err fault) = Unit {0}
