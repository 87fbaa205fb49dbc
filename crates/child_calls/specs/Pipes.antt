-- A process of the kit: what a call on it does to its pipes, where their bytes are known, and that it was waited for.
use Rattle.std.specs.Prelude.{◌≡◌, ⊤, ℕ, List, [], Option, Some, is_some, true}
use Rattle.std.specs.Io.KnownBytes.{Appends, Consumes, IsAtEnd}
use Rattle.std.specs.Process.{child_status}
use Rattle.std.specs.declared.process.child.Child.{Child}
use Rattle.child_calls.specs.Calls.{Answer, done, fault, piece, end, no_memory}
use Rattle.child_calls.specs.Deeds.{Deed, write, read, stop}

-- a pipe that is there before a call and after it
abbrev pub Through : {I : Type 0} → Option I → Option I → (I → I → Type 0) → Type 0
Through {I = I} old new Moves = (before : I) × (after : I) × (old ≡ Some before) × (new ≡ Some after) × Moves before after

-- What was written went to the input, once and whole; a fault may have left a front of it. What was read is what the output had next.
-- A process that was stopped was waited for.
abbrev pub ByPipes : {P I O E : Type 0} → (I → Option (List ℕ)) → (O → Option (List ℕ)) → Child P I O E → Deed → Answer → Child P I O E → Type 0
ByPipes given left c (write bytes) done d = Through c.stdin d.stdin (λ i j. Appends (given i) (given j) bytes)
ByPipes given left c (write bytes) fault d = ⊤
ByPipes given left c (write bytes) (piece came) d = ⊥
ByPipes given left c (write bytes) end d = ⊥
ByPipes given left c (write bytes) no_memory d = ⊥
ByPipes given left c read (piece bytes) d = Through c.stdout d.stdout (λ i j. Consumes (left i) (left j) bytes)
ByPipes given left c read end d = Through c.stdout d.stdout (λ i j. Consumes (left i) (left j) [] × IsAtEnd (left j))
ByPipes given left c read fault d = ⊤
ByPipes given left c read done d = ⊥
ByPipes given left c read no_memory d = ⊥
ByPipes given left c stop done d = is_some (child_status d) ≡ true
ByPipes given left c stop fault d = ⊤
ByPipes given left c stop (piece came) d = ⊥
ByPipes given left c stop end d = ⊥
ByPipes given left c stop no_memory d = ⊥
