-- A walk over the gates of an area. No public clause speaks of it.
use Rattle.std.specs.Prelude.{◌≡◌, ◌≢◌, ℕ, ◌+◌, ◌<◌, ◌≤◌, List, ◌∷◌, ◌++◌, length}
use Rattle.std.specs.Int.{to_be_bytes, w32}
use Rattle.journal.specs.Area.{HasHeader, open_gate}
use Rattle.journal.specs.Damage.{IsBroken}
use Rattle.journal.specs.Limits.{longest_payload}
use Rattle.journal.specs.declared.opening.OpenCause.{OpenCause}
use Rattle.journal.specs.declared.opening.OpenCause.TheVariants as opens
use Rattle.journal.specs.declared.walk.GateContent.{GateContent}
use Rattle.journal.specs.declared.walk.GateContent.TheVariants.{End, Broken, Record}

-- what stands at the gate that these bytes begin with; of a record the length of its payload, which
-- the bytes after it exceed
abbrev pub IsStep : ℕ → List ℕ → GateContent → Type 0
IsStep limit rest End = (gate : ℕ) × (more : List ℕ) × (rest ≡ gate ∷ more) × (gate ≢ open_gate)
IsStep limit rest Broken = (more : List ℕ) × (rest ≡ open_gate ∷ more) × IsBroken limit more
IsStep limit rest (Record n) = (more : List ℕ)
    × (rest ≡ open_gate ∷ (to_be_bytes w32 n ++ more)) × (1 ≤ n) × (n ≤ limit) × (n < length more)

-- over any bytes: the length that a record tells is a payload's, and the record ends before the last
-- of so many bytes
abbrev pub IsLength : ℕ → GateContent → Type 0
IsLength left (Record n) = (1 ≤ n) × (n ≤ longest_payload) × (5 + n < left)
IsLength left step = Unit {0}

-- what a cause says of one area, of which the header was read
abbrev pub LacksHeader : List ℕ → OpenCause → Type 0
LacksHeader bytes (opens.Damaged gate) = ⊥
LacksHeader bytes opens.NotASheet = HasHeader bytes → ⊥
LacksHeader bytes opens.Disk = Unit {0}
LacksHeader bytes opens.OutOfMemory = Unit {0}
