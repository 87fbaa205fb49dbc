use Rattle.driver.specs.Place.{agenda_rules, rules, source_rules}
use Rattle.driver.specs.Reports.{shown}
use Rattle.driver.proofs.Doing.{did_print}
use Rattle.driver.proofs.driver.Driver.show.Goals as goal

pub returns-clause-did : goal.returns-clause-did
returns-clause-did g c =
    let R = rules (agenda_rules g.A.Agenda.rules g.A.Joins.joins) (source_rules g.S.Children.after g.S.Sources.wakes g.S.Sources.clock) g.K.Sink.rules in
    λ n rest w h. did_print R n rest w c.args.self.now.host h c.args.self.now.sources c.args.self.now.sink c.show.new.self c.args.self.now.agenda
    (shown c.args.show) c.show.result (c.show.ensures.tries w h) c.show.ensures.err (c.show.ensures.cut w h)
