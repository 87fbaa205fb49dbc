use Rattle.std.specs.Io.KnownBytes.{Appends}
use Rattle.sheet_export.specs.Fences.{fence_of}
use Rattle.sheet_export.proofs.fences.write_fence.Given as goal

abbrev pub invariant-loop : goal.invariant-loop
invariant-loop g l = Appends (g.W.Write.contents l.initial.out) (g.W.Write.contents l.out) (fence_of l.counter)
