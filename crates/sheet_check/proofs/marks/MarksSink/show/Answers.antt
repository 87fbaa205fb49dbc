use Rattle.driver.specs.Reports as report
use Rattle.sheet_check.specs.Marks.{shown_marks}
use Rattle.sheet_check.proofs.Driven.{cut_marks, none_kept, said_is, says_marks}
use Rattle.sheet_check.proofs.marks.MarksSink.show.Goals as goal

pub returns-clause-tries : goal.returns-clause-tries
returns-clause-tries g c = λ w h.
    says_marks c.args.self.now c.keep_shown.new.self c.args._host.now.store.disk _ (shown_marks c.args.show) c.keep_shown.result (said_is w (report.shown c.args.show)) c.keep_shown.ensures.ok

pub returns-clause-cut : goal.returns-clause-cut
returns-clause-cut g c = λ w h.
    cut_marks c.args.self.now c.keep_shown.new.self _ (shown_marks c.args.show) c.keep_shown.result (said_is w (report.shown c.args.show))
    (none_kept c.args.self.now c.keep_shown.new.self (shown_marks c.args.show) c.keep_shown.result c.keep_shown.ensures.unkept)
