use Rattle.driver.specs.Place.{agenda_rules, rules, source_rules}
use Rattle.driver.specs.Runs.{left_by_answer, parts}
use Rattle.driver.proofs.Doing.{did_hear, hear_failed}
use Rattle.driver.proofs.driver.Driver.hear.Goals as goal

pub returns-in-Ok-clause-did : goal.returns-in-Ok-clause-did
returns-in-Ok-clause-did g c =
    let R = rules (agenda_rules g.A.Agenda.rules g.A.Joins.joins) (source_rules g.S.Children.after g.S.Sources.wakes g.S.Sources.clock) g.K.Sink.rules in
    λ n rest w h. did_hear R n rest w c.args.self.now.host h c.args.self.now.sources c.args.self.now.sink c.args.self.now.agenda c.args.seat c.args.most c.in-Ok.events.items c.hear_ready.new.sources (left_by_answer (λ done. rest)) c.join_and_print.result (n, (parts c.join_and_print.new.self.host c.join_and_print.new.self.sources c.join_and_print.new.self.sink c.join_and_print.new.self.agenda)) c.in-Ok.ensures.ok (c.join_and_print.ensures.did n rest w h)

pub returns-in-Err-clause-did : goal.returns-in-Err-clause-did
returns-in-Err-clause-did g c =
    let R = rules (agenda_rules g.A.Agenda.rules g.A.Joins.joins) (source_rules g.S.Children.after g.S.Sources.wakes g.S.Sources.clock) g.K.Sink.rules in
    λ n rest w h. hear_failed R n rest w c.args.self.now.host h c.args.self.now.sources c.args.self.now.sink c.args.self.now.agenda c.args.seat c.args.most c.hear_ready.new.sources (λ done. rest) c.in-Err.ensures.err
