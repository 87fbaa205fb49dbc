use Rattle.driver.specs.Reports as report
use Rattle.sheet_check.proofs.Driven.{said_is, says_none}
use Rattle.sheet_check.proofs.marks.MarksSink.lives.Goals as goal

pub returns-clause-tries : goal.returns-clause-tries
returns-clause-tries g c = λ w h. says_none c.args.self.now c.args._host.now.store.disk _ (said_is w (report.lives c.args._outcomes.now))
