use Rattle.std.proofs.Common.{length}
use Rattle.evaluation.proofs.Changes.{ChangedSoFar}
use Rattle.evaluation.proofs.choosing.changed_in.Given as goal

abbrev pub invariant-loop-field : goal.invariant-loop-field
invariant-loop-field l = ChangedSoFar l.sheet.contents l.fields l.sessions.items

abbrev pub decreases-loop-field : goal.decreases-loop-field
decreases-loop-field l = length l.fields
