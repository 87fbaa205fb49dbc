use Rattle.std.proofs.Common.{◌≡◌, drop}
use Rattle.check_report.proofs.hunks.pass_over.Given as goal

abbrev pub invariant-loop-left : goal.invariant-loop-left
invariant-loop-left l = drop l.left l.lines ≡ drop l.fn.count l.fn.lines
