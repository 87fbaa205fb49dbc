use Rattle.std.proofs.Common.{◌≡◌, ◌++◌, map}
use Rattle.bstr.specs.Text.{lines_of}
use Rattle.check_report.proofs.hunks.lines_in.Given as goal

abbrev pub invariant-loop-line : goal.invariant-loop-line
invariant-loop-line l = map (λ line. line.now) l.all.items ++ l.lines ≡ lines_of l.fn.text
