use Rattle.std.proofs.Common.{◌+◌}
use Rattle.driver.specs.Place.{agenda_rules, rules, source_rules}
use Rattle.driver.specs.Runs.{parts}
use Rattle.driver.proofs.Doing.{ask_failed, did_ask}
use Rattle.driver.proofs.driver.Driver.step.Goals as goal

pub returns-in-Ok-clause-did : goal.returns-in-Ok-clause-did
returns-in-Ok-clause-did g c =
    let R = rules (agenda_rules g.A.Agenda.rules g.A.Joins.joins) (source_rules g.S.Children.after g.S.Sources.wakes g.S.Sources.clock) g.K.Sink.rules in
    λ n w h. did_ask R n w c.args.self.now.host h c.args.self.now.sources c.args.self.now.sink c.args.self.now.agenda c.next.new.self c.now-now.result c.in-Ok.action c.serve.result (n + 1, (parts c.serve.new.self.host c.serve.new.self.sources c.serve.new.self.sink c.serve.new.self.agenda)) c.now-now.ensures (c.in-Ok.ensures w h) (c.serve.ensures.did (n + 1) w h)

pub returns-in-Err-clause-did : goal.returns-in-Err-clause-did
returns-in-Err-clause-did g c =
    let R = rules (agenda_rules g.A.Agenda.rules g.A.Joins.joins) (source_rules g.S.Children.after g.S.Sources.wakes g.S.Sources.clock) g.K.Sink.rules in
    λ n w h. ask_failed R n w c.args.self.now.host h c.args.self.now.sources c.args.self.now.sink c.args.self.now.agenda c.next.new.self c.now-now.result c.in-Err.why c.now-now.ensures (c.in-Err.ensures w h)
