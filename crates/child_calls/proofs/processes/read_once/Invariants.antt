use Rattle.std.specs.Io.KnownBytes.{Keeps}
use Rattle.child_calls.proofs.processes.read_once.Given as goal

abbrev pub invariant-loop : goal.invariant-loop
invariant-loop g l = Keeps (g.T.Read.remaining l.fn.pipe) (g.T.Read.remaining l.pipe)
