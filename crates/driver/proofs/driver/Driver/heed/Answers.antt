use Rattle.driver.specs.Place.{agenda_rules, rules, source_rules}
use Rattle.driver.specs.Reports.{came_of}
use Rattle.driver.specs.Runs.{parts}
use Rattle.driver.proofs.Doing.{did_heed, did_note}
use Rattle.driver.proofs.driver.Driver.heed.Goals as goal

pub returns-in-None-clause-did : goal.returns-in-None-clause-did
returns-in-None-clause-did g c =
    let R = rules (agenda_rules g.A.Agenda.rules g.A.Joins.joins) (source_rules g.S.Children.after g.S.Sources.wakes g.S.Sources.clock) g.K.Sink.rules in
    λ n rest w h. did_heed R n rest w c.args.self.now.host h c.args.self.now.sources c.args.self.now.sink c.args.self.now.agenda c.heed.new.self
    (came_of c.args.came.now) c.now-now.result _ c.now-now.ensures (c.in-None.ensures w h)

pub returns-in-Some-clause-did : goal.returns-in-Some-clause-did
returns-in-Some-clause-did g c =
    let R = rules (agenda_rules g.A.Agenda.rules g.A.Joins.joins) (source_rules g.S.Children.after g.S.Sources.wakes g.S.Sources.clock) g.K.Sink.rules in
    λ n rest w h. did_note R n rest w c.args.self.now.host h c.args.self.now.sources c.args.self.now.sink c.args.self.now.agenda c.heed.new.self
    (came_of c.args.came.now) c.now-now.result c.in-Some.note c.show.result
    (n, parts c.show.new.self.host c.show.new.self.sources c.show.new.self.sink c.show.new.self.agenda) c.now-now.ensures (c.in-Some.ensures w h) (c.show.ensures.did n rest w h)
