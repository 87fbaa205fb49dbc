use Rattle.driver.specs.Place.{agenda_rules, rules, source_rules}
use Rattle.child_edge.proofs.Ranks.{rank-reported}
use Rattle.driver.proofs.Singly.{did_take_event, take_event_failed}
use Rattle.driver.proofs.driver.Driver.take_event.Goals as goal

pub returns-in-Ok-clause-did : goal.returns-in-Ok-clause-did
returns-in-Ok-clause-did g c =
    let R = rules (agenda_rules g.A.Agenda.rules g.A.Joins.joins) (source_rules g.S.Children.after g.S.Sources.wakes g.S.Sources.clock) g.K.Sink.rules in
    λ n rest w h. did_take_event R n rest w c.args.self.now.host h c.args.self.now.sources c.args.self.now.sink c.args.self.now.agenda c.args.event c.step.new.host c.in-Ok.outcome c.step.ensures.same (c.in-Ok.ensures.ok w h)

pub returns-in-Ok-clause-less : goal.returns-in-Ok-clause-less
returns-in-Ok-clause-less g c = λ w h. λ a. let t = c.in-Ok.ensures.ok w h in rank-reported w c.args.event t.did c.in-Ok.outcome a t.may t.reported

pub returns-in-Err-clause-did : goal.returns-in-Err-clause-did
returns-in-Err-clause-did g c =
    let R = rules (agenda_rules g.A.Agenda.rules g.A.Joins.joins) (source_rules g.S.Children.after g.S.Sources.wakes g.S.Sources.clock) g.K.Sink.rules in
    λ n rest w h. take_event_failed R n rest w c.args.self.now.host h c.args.self.now.sources c.args.self.now.sink c.args.self.now.agenda c.args.event c.step.new.host c.in-Err.fault (c.in-Err.ensures.err w h)
