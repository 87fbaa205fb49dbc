-- The bytes that an append writes after a gate. No public clause speaks of them.
use Rattle.std.specs.Prelude.{◌≡◌, ℕ, ◌-◌, List, [], ◌∷◌, ◌++◌, length, take, drop}
use Rattle.journal.specs.Area.{body_of, closed_gate, IsPayload}

-- the payload in the bytes of a frame
abbrev pub payload_in : List ℕ → List ℕ
payload_in bytes = take (length bytes - 5) (drop 4 bytes)

-- the length and the payload, and the next gate, closed
pub record IsFrame (limit : ℕ) (bytes : List ℕ) : Type 0 where
  pub is : bytes ≡ body_of (payload_in bytes) ++ closed_gate ∷ []
  pub payload : IsPayload limit (payload_in bytes)
