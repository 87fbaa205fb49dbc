use Rattle.whole_writes.proofs.Writing.{Going}
use Rattle.whole_writes.proofs.write_whole.Given as goal

abbrev pub invariant-loop : goal.invariant-loop
invariant-loop g l = Going (g.W.Write.contents l.initial.writer) (g.W.Write.contents l.writer) l.rest l.bytes
