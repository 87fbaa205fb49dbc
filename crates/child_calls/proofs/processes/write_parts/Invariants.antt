-- What was written is the front of the bytes, before the rest.
use Rattle.std.proofs.Common.{◌≡◌, ◌++◌, ℕ, List, length}
use Rattle.std.specs.Io.KnownBytes.{Appends}
use Rattle.child_calls.proofs.processes.write_parts.Given as goal

abbrev pub invariant-loop-rest : goal.invariant-loop-rest
invariant-loop-rest g l = (done : List ℕ) × (l.fn.bytes ≡ done ++ l.rest) × Appends (g.T.Write.contents l.fn.pipe) (g.T.Write.contents l.pipe) done

abbrev pub decreases-loop-rest : goal.decreases-loop-rest
decreases-loop-rest g l = length l.rest
