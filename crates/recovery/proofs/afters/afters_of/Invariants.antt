use Rattle.std.proofs.Common.{length}
use Rattle.recovery.proofs.InFront.{PlacedSoFar}
use Rattle.recovery.proofs.afters.afters_of.Given as goal

abbrev pub invariant-loop-field : goal.invariant-loop-field
invariant-loop-field l = PlacedSoFar l.sheet.contents l.fields l.smaller.items l.afters.items

abbrev pub decreases-loop-field : goal.decreases-loop-field
decreases-loop-field l = length l.fields
