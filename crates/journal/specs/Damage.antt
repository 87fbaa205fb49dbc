-- The damage of an area (docs/trust/FORMAT.md, "Opening").
use Rattle.std.specs.Prelude.{◌≡◌, ◌⊎◌, ℕ, ◌<◌, ◌≤◌, List, [], ◌∷◌, ◌++◌, length}
use Rattle.std.specs.Int.{from_be_bytes, w32}
use Rattle.journal.specs.Area.{HeaderOf, records, ArePayloads, end_of, open_gate}

-- The bytes after an open gate aren't a record and a next gate. The length field, the payload or the
-- next gate ends past the area, or the length is 0 or too large.
abbrev pub IsBroken : ℕ → List ℕ → Type 0
IsBroken limit (b0 ∷ b1 ∷ b2 ∷ b3 ∷ more) =
    let n = from_be_bytes w32 (b0 ∷ b1 ∷ b2 ∷ b3 ∷ []) in
    (n ≡ 0) ⊎ ((limit < n) ⊎ (length more ≤ n))
IsBroken limit short = Unit {0}

-- a header, the records of these payloads, and a rest that begins with a gate
pub record Walked (limit : ℕ) (bytes : List ℕ) (payloads : List (List ℕ))
    (rest : List ℕ) : Type 0 where
  pub header_is : HeaderOf bytes (records payloads ++ rest)
  pub each : ArePayloads limit payloads
  pub some : 0 < length rest

-- the records before this gate are whole, and what follows it is broken
abbrev pub IsDamaged : ℕ → List ℕ → ℕ → Type 0
IsDamaged limit bytes gate = (payloads : List (List ℕ)) × (more : List ℕ)
    × Walked limit bytes payloads (open_gate ∷ more) × (gate ≡ end_of payloads)
    × IsBroken limit more
