use Rattle.driver.specs.Place.{agenda_rules, rules, source_rules}
use Rattle.driver.specs.Runs.{left_by_answer, parts}
use Rattle.driver.proofs.Singly.{did_receive, receive_failed}
use Rattle.driver.proofs.driver.Driver.receive.Goals as goal

pub returns-in-Ok-clause-did : goal.returns-in-Ok-clause-did
returns-in-Ok-clause-did g c =
    let R = rules (agenda_rules g.A.Agenda.rules g.A.Joins.joins) (source_rules g.S.Children.after g.S.Sources.wakes g.S.Sources.clock) g.K.Sink.rules in
    λ n rest w h. did_receive R n rest w c.args.self.now.host h c.args.self.now.sources c.args.self.now.sink c.args.self.now.agenda c.args.seat c.in-Ok.event c.receive_event.new.children (left_by_answer (λ done. rest)) c.take_alone.result (n, (parts c.take_alone.new.self.host c.take_alone.new.self.sources c.take_alone.new.self.sink c.take_alone.new.self.agenda)) c.in-Ok.ensures.ok (c.take_alone.ensures.did n rest w h)

pub returns-in-Err-clause-did : goal.returns-in-Err-clause-did
returns-in-Err-clause-did g c =
    let R = rules (agenda_rules g.A.Agenda.rules g.A.Joins.joins) (source_rules g.S.Children.after g.S.Sources.wakes g.S.Sources.clock) g.K.Sink.rules in
    λ n rest w h. receive_failed R n rest w c.args.self.now.host h c.args.self.now.sources c.args.self.now.sink c.args.self.now.agenda c.args.seat c.receive_event.new.children c.in-Err.ensures.err
