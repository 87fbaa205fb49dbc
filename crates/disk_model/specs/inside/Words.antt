-- Names for parts of definitions, which proofs and private clauses use.
use Rattle.std.specs.Prelude.{List, ◌∷◌}
use Rattle.std.specs.List.{AllByRecursion}
use Rattle.disk_model.specs.Disk.{DiskState, History}

-- the states of all moments, the newest first
abbrev pub states_of : History → List DiskState
states_of h = h.now ∷ h.past

-- each state of a list has Q
abbrev pub Each : (DiskState → Type 0) → List DiskState → Type 0
Each Q states = AllByRecursion Q states
