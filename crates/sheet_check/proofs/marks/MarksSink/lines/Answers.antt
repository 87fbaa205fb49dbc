use Rattle.driver.specs.Reports as report
use Rattle.sheet_check.specs.Marks.{line_marks}
use Rattle.sheet_check.proofs.Driven.{cut_marks, said_is, says_marks}
use Rattle.sheet_check.proofs.marks.MarksSink.lines.Goals as goal

pub returns-clause-tries : goal.returns-clause-tries
returns-clause-tries g c = λ w h.
    says_marks c.args.self.now c.keep_lines.new.self c.args._host.now.store.disk _ (line_marks c.args.outcomes.now) c.keep_lines.result
    (said_is w (report.lines c.args._first c.args.outcomes.now)) c.keep_lines.ensures.ok

pub returns-clause-cut : goal.returns-clause-cut
returns-clause-cut g c = λ w h.
    cut_marks c.args.self.now c.keep_lines.new.self _ (line_marks c.args.outcomes.now) c.keep_lines.result (said_is w (report.lines c.args._first c.args.outcomes.now)) c.keep_lines.ensures.cut
