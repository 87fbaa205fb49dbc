-- The bytes of a journal's areas (docs/trust/FORMAT.md, "The journal").
use Rattle.std.specs.Prelude.{◌≡◌, ◌≢◌, ◌==◌, ℕ, ◌+◌, ◌<◌, ◌≤◌, List, [], ◌∷◌, ◌++◌, drop, length, if◌then◌else◌}
use Rattle.std.specs.Int.{to_be_bytes, w32}
use Rattle.disk_model.specs.Disk.{overwritten}
use Rattle.disk_model.specs.declared.disk.Area.{Area}
use Rattle.disk_model.specs.declared.disk.Area.TheVariants.{First, Second}

-- the text `TMWSHEET`, the version 1, and the selector
abbrev pub header : ℕ → List ℕ
header selector = 84 ∷ 77 ∷ 87 ∷ 83 ∷ 72 ∷ 69 ∷ 69 ∷ 84 ∷ 1 ∷ selector ∷ []

-- the selector `A`, as which First is written
abbrev pub names_first : ℕ
names_first = 65

-- the selector `B`, which names Second
abbrev pub names_second : ℕ
names_second = 66

-- the area that a selector names as the active one: Second where it is `B`, and First at any other
-- byte
abbrev pub named_by : ℕ → Area
named_by selector = if selector == names_second then Second else First

-- the selector's offset in area First
abbrev pub selector_at : ℕ
selector_at = 9

-- a gate is open where it is `R`, and closed at any other byte; closed it is written as 0
abbrev pub open_gate : ℕ
open_gate = 82

abbrev pub closed_gate : ℕ
closed_gate = 0

-- what follows a gate: the payload's length in four bytes, and the payload
abbrev pub body_of : List ℕ → List ℕ
body_of payload = to_be_bytes w32 (length payload) ++ payload

-- an open gate, and what follows it
abbrev pub record_of : List ℕ → List ℕ
record_of payload = open_gate ∷ body_of payload

-- record after record
abbrev pub records : List (List ℕ) → List ℕ
records [] = []
records (payload ∷ payloads) = record_of payload ++ records payloads

-- a payload has at least one byte, and at most the limit
abbrev pub IsPayload : ℕ → List ℕ → Type 0
IsPayload limit payload = (1 ≤ length payload) × (length payload ≤ limit)

-- a payload after its length
pub record IsBody (limit : ℕ) (bytes : List ℕ) : Type 0 where
  pub is : bytes ≡ body_of (drop 4 bytes)
  pub payload : IsPayload limit (drop 4 bytes)

abbrev pub ArePayloads : ℕ → List (List ℕ) → Type 0
ArePayloads limit [] = Unit {0}
ArePayloads limit (payload ∷ payloads) = IsPayload limit payload × ArePayloads limit payloads

-- the offset of the first gate, which follows the header
abbrev pub first_gate : ℕ
first_gate = 10

-- the offset of the gate after the records of these payloads
abbrev pub end_of : List (List ℕ) → ℕ
end_of payloads = first_gate + length (records payloads)

-- an area begins with a header, whatever its selector, and this is its rest
pub record HeaderOf (bytes rest : List ℕ) : Type 0 where
  pub selector : ℕ
  pub is : bytes ≡ header selector ++ rest

-- a header, and at least one byte after it
abbrev pub HasHeader : List ℕ → Type 0
HasHeader bytes = (rest : List ℕ) × HeaderOf bytes rest × (0 < length rest)

-- after a header: the records of these payloads, a closed gate, and then anything
pub record Lays (limit : ℕ) (rest : List ℕ) (payloads : List (List ℕ)) : Type 0 where
  pub gate : ℕ
  pub more : List ℕ
  pub is : rest ≡ records payloads ++ gate ∷ more
  pub closed : gate ≢ open_gate
  pub each : ArePayloads limit payloads

-- an area stands for these payloads: after its header it lays them out
pub record StandsFor (limit : ℕ) (bytes : List ℕ) (payloads : List (List ℕ)) : Type 0 where
  pub rest : List ℕ
  pub header_is : HeaderOf bytes rest
  pub lays : Lays limit rest payloads

-- an area to which a payload was added at its closed gate: its record, with the gate open, and the
-- next gate, written closed
abbrev pub added_at : ℕ → List ℕ → List ℕ → List ℕ
added_at end payload old = overwritten old end (record_of payload ++ closed_gate ∷ [])

-- the same of several payloads: all their records, and the next gate
abbrev pub all_added_at : ℕ → List (List ℕ) → List ℕ → List ℕ
all_added_at end payloads old = overwritten old end (records payloads ++ closed_gate ∷ [])

-- the records of these payloads, and a closed gate after them
pub record IsGroup (limit : ℕ) (bytes : List ℕ) (payloads : List (List ℕ)) : Type 0 where
  pub is : bytes ≡ records payloads ++ closed_gate ∷ []
  pub each : ArePayloads limit payloads

-- an area that was just created: the header, its selector written as `A`, and the first gate,
-- written closed
abbrev pub created : List ℕ
created = header names_first ++ closed_gate ∷ []
