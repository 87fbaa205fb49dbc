use Rattle.driver.specs.Place.{agenda_rules, rules, source_rules}
use Rattle.driver.specs.Runs.{left_by_answer, parts}
use Rattle.driver.proofs.Doing.{did_interrupt}
use Rattle.driver.proofs.driver.Driver.interrupt.Goals as goal

pub returns-clause-did : goal.returns-clause-did
returns-clause-did g c =
    let R = rules (agenda_rules g.A.Agenda.rules g.A.Joins.joins) (source_rules g.S.Children.after g.S.Sources.wakes g.S.Sources.clock) g.K.Sink.rules in
    λ n rest w h. did_interrupt R n rest w c.args.self.now.host h c.args.self.now.sources c.args.self.now.sink c.args.self.now.agenda c.args.name c.interrupt-result.result c.interrupt-result.new.children (left_by_answer (λ done. rest)) c.heed.result (n, (parts c.heed.new.self.host c.heed.new.self.sources c.heed.new.self.sink c.heed.new.self.agenda)) (c.interrupt-result.ensures w h) (c.heed.ensures.did n rest w h)
