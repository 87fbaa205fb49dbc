use Rattle.std.proofs.Common.{length}
use Rattle.check_report.specs.Tap.{comments, comments_after}
use Rattle.check_report.proofs.Written.{Written}
use Rattle.check_report.proofs.tap.write_comments.Given as goal

abbrev pub invariant-loop-byte : goal.invariant-loop-byte
invariant-loop-byte g l = Written (g.W.Write.contents l.initial.out) (g.W.Write.contents l.out) (comments_after l.begins l.rest) (comments l.text)

abbrev pub decreases-loop-byte : goal.decreases-loop-byte
decreases-loop-byte g l = length l.rest
