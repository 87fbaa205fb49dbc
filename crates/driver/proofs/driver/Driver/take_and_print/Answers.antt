use Rattle.std.proofs.Common.{◌∷◌, ◌++◌}
use Rattle.driver.specs.Place.{agenda_rules, rules, source_rules}
use Rattle.child_edge.specs.declared.together.GaveTogether.{GaveTogether}
use Rattle.driver.specs.Items.{printing, take}
use Rattle.driver.specs.Runs.{left_by_answer, parts, seen}
use Rattle.driver.proofs.Running.{did_fail, did_then}
use Rattle.driver.proofs.driver.Driver.take_and_print.Goals as goal

pub returns-in-Ok-clause-did : goal.returns-in-Ok-clause-did
returns-in-Ok-clause-did g c =
    let R = rules (agenda_rules g.A.Agenda.rules g.A.Joins.joins) (source_rules g.S.Children.after g.S.Sources.wakes g.S.Sources.clock) g.K.Sink.rules in
    let here = parts c.args.self.now.host c.args.self.now.sources c.args.self.now.sink c.args.self.now.agenda in
    λ n rest w h. let first = c.in-Ok.ensures.did n rest w h in did_then R (seen n w here) (take c.args.from c.args.events.items ∷ rest)
    (λ (x : GaveTogether). printing c.args.from x.outcomes.items x.replies.items ++ rest) c.in-Ok.gave n
    (parts c.take.new.self.host c.take.new.self.sources c.take.new.self.sink c.take.new.self.agenda) (left_by_answer (λ done. rest)) c.print_group.result
    (n, (parts c.print_group.new.self.host c.print_group.new.self.sources c.print_group.new.self.sink c.print_group.new.self.agenda)) first
    (c.print_group.ensures.did n rest first.world first.stands)

pub returns-in-Err-clause-did : goal.returns-in-Err-clause-did
returns-in-Err-clause-did g c =
    let R = rules (agenda_rules g.A.Agenda.rules g.A.Joins.joins) (source_rules g.S.Children.after g.S.Sources.wakes g.S.Sources.clock) g.K.Sink.rules in
    let here = parts c.args.self.now.host c.args.self.now.sources c.args.self.now.sink c.args.self.now.agenda in
    λ n rest w h. did_fail R (seen n w here) (take c.args.from c.args.events.items ∷ rest)
    (λ (x : GaveTogether). printing c.args.from x.outcomes.items x.replies.items ++ rest) (λ done. rest) c.in-Err.why
    (n, (parts c.take.new.self.host c.take.new.self.sources c.take.new.self.sink c.take.new.self.agenda)) (c.in-Err.ensures.did n rest w h)
