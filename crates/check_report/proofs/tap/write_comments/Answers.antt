use Rattle.check_report.proofs.Comments.{text_commented}
use Rattle.check_report.proofs.tap.write_comments.Goals as goal

pub returns : goal.returns
returns g c = text_commented c.loop-byte.begins c.loop-byte.rest.now _ _ _ _ c.in_default.ensures.cases c.loop-byte.invariant c.in_ok-write_end.ensures
