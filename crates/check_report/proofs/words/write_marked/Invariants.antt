use Rattle.bstr.specs.Text.{lines_of}
use Rattle.check_report.proofs.Marking.{Marked}
use Rattle.check_report.proofs.words.write_marked.Given as goal

abbrev pub invariant-loop-line : goal.invariant-loop-line
invariant-loop-line g l = Marked l.fn.mark (g.W.Write.contents l.fn.writer) (g.W.Write.contents l.writer) l.lines (lines_of l.fn.text)
