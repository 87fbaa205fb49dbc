-- What an opening gives.
use Rattle.std.specs.Prelude.{◌≡◌, ℕ, ◌+◌, List, [], ◌∷◌, length}
use Rattle.journal.specs.Area.{record_of}
use Rattle.journal.specs.declared.walk.Payload.{Payload}

-- the bytes of these payloads
abbrev pub payloads_in : List Payload → List (List ℕ)
payloads_in [] = []
payloads_in (p ∷ ps) = p.bytes ∷ payloads_in ps

-- each payload names its gate, of which the first is here
abbrev pub AreGates : ℕ → List Payload → Type 0
AreGates gate [] = Unit {0}
AreGates gate (p ∷ ps) = (p.gate ≡ gate) × AreGates (gate + length (record_of p.bytes)) ps
