use Rattle.std.proofs.Common.{◌∙◌, ap, map}
use Rattle.driver.specs.Place.{agenda_rules, rules, source_rules}
use Rattle.driver.specs.Items.{stalls}
use Rattle.driver.specs.Runs.{left_by_answer, parts}
use Rattle.driver.proofs.Doing.{did_stall, stall_failed}
use Rattle.driver.proofs.driver.Driver.stall.Goals as goal

pub returns-in_default-clause-did : goal.returns-in_default-clause-did
returns-in_default-clause-did g c =
    let R = rules (agenda_rules g.A.Agenda.rules g.A.Joins.joins) (source_rules g.S.Children.after g.S.Sources.wakes g.S.Sources.clock) g.K.Sink.rules in
    λ n rest w h. stall_failed R n rest w c.args.self.now.host h c.args.self.now.sources c.args.self.now.sink c.args.self.now.agenda (λ done. rest)

pub returns-in-Ok-stalled_events-clause-did : goal.returns-in-Ok-stalled_events-clause-did
returns-in-Ok-stalled_events-clause-did g c =
    let R = rules (agenda_rules g.A.Agenda.rules g.A.Joins.joins) (source_rules g.S.Children.after g.S.Sources.wakes g.S.Sources.clock) g.K.Sink.rules in
    λ n rest w h. did_stall R n rest w c.args.self.now.host h c.args.self.now.sources c.args.self.now.sink c.args.self.now.agenda c.in-Ok-stalled_events.events.items (left_by_answer (λ done. rest)) c.take_and_print.result (n, (parts c.take_and_print.new.self.host c.take_and_print.new.self.sources c.take_and_print.new.self.sink c.take_and_print.new.self.agenda)) (c.in-Ok-stalled_events.ensures ∙ ap (map stalls) (c.as_slice.ensures.value ∙ c.in-Ok.ensures w h)) (c.take_and_print.ensures.did n rest w h)

pub returns-clause-did : goal.returns-clause-did
returns-clause-did g c =
    let R = rules (agenda_rules g.A.Agenda.rules g.A.Joins.joins) (source_rules g.S.Children.after g.S.Sources.wakes g.S.Sources.clock) g.K.Sink.rules in
    λ n rest w h. stall_failed R n rest w c.args.self.now.host h c.args.self.now.sources c.args.self.now.sink c.args.self.now.agenda (λ done. rest)
