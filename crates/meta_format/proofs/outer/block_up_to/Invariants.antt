use Rattle.std.proofs.Common.{◌<◌, ◌≤◌, ◌-◌}
use Rattle.meta_format.specs.Limits.{limits}
use Rattle.meta_format.specs.inside.Flat.{InBody}
use Rattle.meta_format.proofs.outer.block_up_to.Given as goal

abbrev pub invariant-loop-at : goal.invariant-loop-at
invariant-loop-at l = (l.start < l.at) × (l.at ≤ l.limit) × (l.depth ≤ 31) × InBody limits l.stream l.start l.at l.depth

abbrev pub decreases-loop-at : goal.decreases-loop-at
decreases-loop-at l = l.limit - l.at
