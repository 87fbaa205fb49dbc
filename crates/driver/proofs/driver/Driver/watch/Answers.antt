use Rattle.driver.specs.Place.{agenda_rules, rules, source_rules}
use Rattle.arrivals.specs.Watching.{asked}
use Rattle.driver.proofs.Doing.{did_watch, watch_failed}
use Rattle.driver.proofs.driver.Driver.watch.Goals as goal

pub returns-in-Ok-clause-did : goal.returns-in-Ok-clause-did
returns-in-Ok-clause-did g c =
    let R = rules (agenda_rules g.A.Agenda.rules g.A.Joins.joins) (source_rules g.S.Children.after g.S.Sources.wakes g.S.Sources.clock) g.K.Sink.rules in
    λ n rest w h. did_watch R n rest w c.args.self.now.host h c.args.self.now.sources c.watch.new.self c.args.self.now.sink c.args.self.now.agenda c.wake.new.self (asked c.args.input c.args.patience) c.in-Ok.woken _ c.in-Ok.ensures.tells c.wake.ensures

pub returns-in-Err-clause-did : goal.returns-in-Err-clause-did
returns-in-Err-clause-did g c =
    let R = rules (agenda_rules g.A.Agenda.rules g.A.Joins.joins) (source_rules g.S.Children.after g.S.Sources.wakes g.S.Sources.clock) g.K.Sink.rules in
    λ n rest w h. watch_failed R n rest w c.args.self.now.host h c.args.self.now.sources c.watch.new.self c.args.self.now.sink c.args.self.now.agenda
    (asked c.args.input c.args.patience) _ c.in-Err.ensures.tells
