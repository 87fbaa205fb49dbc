use Rattle.std.proofs.Common.{length}
use Rattle.sheet_export.specs.Pictures.{in_base64}
use Rattle.sheet_export.proofs.Written.{Written}
use Rattle.sheet_export.proofs.pictures.write_base64.Given as goal

abbrev pub invariant-loop-a : goal.invariant-loop-a
invariant-loop-a g l = Written (g.W.Write.contents l.initial.out) (g.W.Write.contents l.out) (in_base64 l.rest) (in_base64 l.bytes)

abbrev pub decreases-loop-a : goal.decreases-loop-a
decreases-loop-a g l = length l.rest
