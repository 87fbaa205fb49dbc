use Rattle.std.proofs.Common.{◌≤◌, ◌-◌}
use Rattle.block_tree.specs.Shape.{longest_tag}
use Rattle.meta_format.specs.inside.Flat.{NameUpTo}
use Rattle.meta_format.proofs.outer.name_end.Given as goal

abbrev pub invariant-loop-i : goal.invariant-loop-i
invariant-loop-i l = (l.at ≤ l.i) × (l.i ≤ l.limit) × NameUpTo longest_tag l.stream l.at l.i

abbrev pub decreases-loop-i : goal.decreases-loop-i
decreases-loop-i l = l.limit - l.i
