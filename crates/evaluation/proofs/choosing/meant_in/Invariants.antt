use Rattle.std.proofs.Common.{length}
use Rattle.evaluation.proofs.Meaning.{MeantSoFar}
use Rattle.evaluation.proofs.choosing.meant_in.Given as goal

abbrev pub invariant-loop-field : goal.invariant-loop-field
invariant-loop-field l = MeantSoFar l.plan l.sheet.contents l.fields l.asked l.ids.items

abbrev pub decreases-loop-field : goal.decreases-loop-field
decreases-loop-field l = length l.fields
