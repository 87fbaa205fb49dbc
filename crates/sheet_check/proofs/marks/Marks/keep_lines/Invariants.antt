use Rattle.std.proofs.Common.{◌≡◌, ◌++◌, take}
use Rattle.sheet_check.specs.Marks.{line_marks}
use Rattle.sheet_check.proofs.marks.Marks.keep_lines.Given as goal

abbrev pub invariant-loop-outcome : goal.invariant-loop-outcome
invariant-loop-outcome l = l.self.kept ≡ l.fn.self.kept ++ line_marks (take l.outcome-index l.outcomes)
