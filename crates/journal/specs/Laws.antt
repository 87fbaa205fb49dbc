-- Laws of areas.
use Rattle.std.specs.Prelude.{◌≡◌, ℕ, Bool, ◌+◌, ◌<◌, ◌^◌, List, [], ◌∷◌, ◌++◌, length}
use Rattle.disk_model.specs.Disk.{DiskView, Image, IsImage, LeavesOnly, bytes_on}
use Rattle.journal.specs.Area.{ArePayloads, IsPayload, StandsFor, end_of, records}
use Rattle.journal.specs.Damage.{IsDamaged}
use Rattle.journal.specs.Front.{HasFront}
use Rattle.journal.specs.Kept.{BeforeOrAfter, ImageStandsFor, Keeps, other_of}
use Rattle.journal.specs.Limits.{longest_payload}
use Rattle.journal.specs.Open.{IsPassing, Tells}
use Rattle.journal.specs.Owed.{owed_disk}
use Rattle.journal.specs.declared.opening.OpenCause.{OpenCause}

-- an area stands for at most one list of payloads, where their lengths fit four bytes
abbrev pub OneList : Type 0
OneList = (limit : ℕ) → limit < 2 ^ 32 → (area : List ℕ) (payloads others : List (List ℕ))
    → StandsFor limit area payloads → StandsFor limit area others → payloads ≡ others

-- an area is damaged at one gate at most
abbrev pub OneDamage : Type 0
OneDamage = (limit : ℕ) → limit < 2 ^ 32 → (area : List ℕ) (gate other : ℕ)
    → IsDamaged limit area gate → IsDamaged limit area other → gate ≡ other

-- an area that stands for payloads isn't damaged
abbrev pub NoDamage : Type 0
NoDamage = (limit : ℕ) → limit < 2 ^ 32 → (area : List ℕ) (payloads : List (List ℕ)) (gate : ℕ)
    → StandsFor limit area payloads → IsDamaged limit area gate → ⊥

-- an area has at most one front, which is damaged or not
abbrev pub OneFront : Type 0
OneFront = (limit : ℕ) → limit < 2 ^ 32 → (area : List ℕ) (payloads others : List (List ℕ))
    (damaged again : Bool) → HasFront limit area payloads damaged → HasFront limit area others again
    → (payloads ≡ others) × (damaged ≡ again)

-- and no cause of a refusal lies in the bytes of an image that stands for payloads
abbrev pub StandingOpens : Type 0
StandingOpens = (i : Image) (payloads : List (List ℕ)) (cause : OpenCause)
    → ImageStandsFor i payloads → Tells i cause → IsPassing cause

-- Where there is no payload, the gate is at 10, after the header. Each payload moves it on by 5 bytes and the payload's length: a
-- gate of one byte and a length of four bytes stand in front of the payload.
abbrev pub GateAfter : Type 0
GateAfter = (end_of [] ≡ 10)
    × ((payloads : List (List ℕ)) (payload : List ℕ) → end_of (payloads ++ payload ∷ []) ≡ end_of payloads + 5 + length payload)

-- A disk to which payloads are owed keeps them after its own. One more that is owed is an append by itself. At every moment of it each
-- image stands for the payloads from before it, with the new one or without. The area that isn't active is left alone.
abbrev pub OwesMore : Type 0
OwesMore = (v : DiskView) (end : ℕ) (before ps : List (List ℕ)) (payload : List ℕ) → IsImage v.history.now (bytes_on v) → Keeps v.history end before → ArePayloads longest_payload ps → IsPayload longest_payload payload
    → Keeps (owed_disk v end ps).history (end + length (records ps)) (before ++ ps)
    × LeavesOnly (BeforeOrAfter (owed_disk v end ps).history.now (before ++ ps) payload) (owed_disk v end ps).history (owed_disk v end (ps ++ payload ∷ [])).history
    × (other_of (bytes_on (owed_disk v end (ps ++ payload ∷ []))) ≡ other_of (bytes_on (owed_disk v end ps)))
