use Rattle.std.proofs.Common.{length}
use Rattle.recovery.proofs.InFront.{TellsAlike}
use Rattle.recovery.proofs.afters.put_number.Given as goal

abbrev pub invariant-loop-last : goal.invariant-loop-last
invariant-loop-last l = TellsAlike l.id l.initial.smaller.items l.smaller.items

abbrev pub decreases-loop-last : goal.decreases-loop-last
decreases-loop-last l = length l.smaller.items
