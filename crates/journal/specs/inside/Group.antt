-- The payloads of records that are read one after another. No public clause speaks of them.
use Rattle.std.specs.Prelude.{ℕ, zero, suc, List, [], ◌∷◌, length, take, drop}
use Rattle.std.specs.Int.{from_be_bytes, w32}

-- the payloads of so many records at most, where bytes begin with them; the bytes of a gate and a length are fewer than five at the end
abbrev pub payloads_by : ℕ → List ℕ → List (List ℕ)
payloads_by zero bytes = []
payloads_by (suc n) (gate ∷ b0 ∷ b1 ∷ b2 ∷ b3 ∷ rest) =
    let len = from_be_bytes w32 (b0 ∷ b1 ∷ b2 ∷ b3 ∷ []) in take len rest ∷ payloads_by n (drop len rest)
payloads_by (suc n) short = []

-- the payloads of a group's bytes
abbrev pub group_of : List ℕ → List (List ℕ)
group_of bytes = payloads_by (length bytes) bytes
