use Rattle.std.proofs.Common.{take}
use Rattle.check_report.proofs.Marking.{Marked}
use Rattle.check_report.proofs.hunks.write_next.Given as goal

abbrev pub invariant-loop-left : goal.invariant-loop-left
invariant-loop-left g l = Marked l.fn.mark (g.W.Write.contents l.fn.writer) (g.W.Write.contents l.writer) (take l.left l.lines) (take l.fn.count l.initial.lines)
