use Rattle.std.proofs.Common.{[], ◌++◌, ◌∷◌, None, Option, Ok, Err, sym, subst}
use Rattle.std.specs.Prelude.{◌<◌}
use Rattle.host_events.specs.declared.event.Event.{Event}
use Rattle.host_events.specs.declared.outcome.Outcome.{Outcome}
use Rattle.child_edge.specs.inside.Ranks.{rank, rank_of}
use Rattle.driver.specs.Place.{agenda_rules, rules, source_rules}
use Rattle.driver.specs.Items.{carry, printing, take_alone, taking_due}
use Rattle.driver.specs.Runs.{left_by_answer, parts, seen}
use Rattle.driver.proofs.Running.{did_fail, did_then}
use Rattle.driver.proofs.Singly.{did_carry, due_then}
use Rattle.driver.proofs.driver.Driver.take_one.Goals as goal

pub returns-in-Ok-print_event-clause-did : goal.returns-in-Ok-print_event-clause-did
returns-in-Ok-print_event-clause-did g c =
    let R = rules (agenda_rules g.A.Agenda.rules g.A.Joins.joins) (source_rules g.S.Children.after g.S.Sources.wakes g.S.Sources.clock) g.K.Sink.rules in
    let here = parts c.args.self.now.host c.args.self.now.sources c.args.self.now.sink c.args.self.now.agenda in
    λ n rest w h.
    let first = c.in-Ok.ensures.did n rest w h in
    let went = c.carry_out-due.ensures in
    did_then R (seen n w here) (take_alone c.args.event ∷ rest) (λ (o : Outcome). carry o ∷ rest) c.in-Ok.outcome n
    (parts c.take_event.new.self.host c.take_event.new.self.sources c.take_event.new.self.sink c.take_event.new.self.agenda)
    (left_by_answer (λ (due : Option Event). taking_due due ++ rest)) (Ok c.carry_out-due.result)
    (n, (parts c.print_event.new.self.host c.print_event.new.self.sources c.print_event.new.self.sink c.print_event.new.self.agenda)) first
    (did_carry R n rest first.world c.take_event.new.self.host first.stands c.take_event.new.self.sources c.take_event.new.self.sink c.take_event.new.self.agenda c.in-Ok.outcome went.0 c.carry_out-due.new.children c.carry_out-due.result
    (left_by_answer (λ (due : Option Event). taking_due due ++ rest)) (Ok c.carry_out-due.result)
    (n, (parts c.print_event.new.self.host c.print_event.new.self.sources c.print_event.new.self.sink c.print_event.new.self.agenda)) went.1 went.2
    (due_then R n rest first.world c.take_event.new.self.host first.stands c.take_event.new.self.sources c.take_event.new.self.sink c.take_event.new.self.agenda
    (seen n first.world (parts c.take_event.new.self.host c.carry_out-due.new.children c.take_event.new.self.sink c.take_event.new.self.agenda))
    (printing None (c.in-Ok.outcome ∷ []) [] ++ taking_due c.carry_out-due.result ++ rest) c.carry_out-due.result
    (n, (parts c.print_event.new.self.host c.print_event.new.self.sources c.print_event.new.self.sink c.print_event.new.self.agenda))
    (c.in-Ok-print_event.ensures.did n (taking_due c.carry_out-due.result ++ rest) first.world first.stands)))

pub returns-in-Ok-print_event-clause-less : goal.returns-in-Ok-print_event-clause-less
returns-in-Ok-print_event-clause-less g c = λ w h. subst (λ (due : Option Event). rank due < rank_of c.args.event) (sym c.carry_out-due.ensures.2) (c.in-Ok.ensures.less w h c.carry_out-due.ensures.0)

pub returns-in-Err-print_event-clause-did : goal.returns-in-Err-print_event-clause-did
returns-in-Err-print_event-clause-did g c =
    let R = rules (agenda_rules g.A.Agenda.rules g.A.Joins.joins) (source_rules g.S.Children.after g.S.Sources.wakes g.S.Sources.clock) g.K.Sink.rules in
    let here = parts c.args.self.now.host c.args.self.now.sources c.args.self.now.sink c.args.self.now.agenda in
    λ n rest w h.
    let first = c.in-Ok.ensures.did n rest w h in
    let went = c.carry_out-due.ensures in
    did_then R (seen n w here) (take_alone c.args.event ∷ rest) (λ (o : Outcome). carry o ∷ rest) c.in-Ok.outcome n
    (parts c.take_event.new.self.host c.take_event.new.self.sources c.take_event.new.self.sink c.take_event.new.self.agenda)
    (left_by_answer (λ (due : Option Event). taking_due due ++ rest)) (Err c.in-Err-print_event.why)
    (n, (parts c.print_event.new.self.host c.print_event.new.self.sources c.print_event.new.self.sink c.print_event.new.self.agenda)) first
    (did_carry R n rest first.world c.take_event.new.self.host first.stands c.take_event.new.self.sources c.take_event.new.self.sink c.take_event.new.self.agenda c.in-Ok.outcome went.0 c.carry_out-due.new.children c.carry_out-due.result
    (left_by_answer (λ (due : Option Event). taking_due due ++ rest)) (Err c.in-Err-print_event.why)
    (n, (parts c.print_event.new.self.host c.print_event.new.self.sources c.print_event.new.self.sink c.print_event.new.self.agenda)) went.1 went.2
    (did_fail R (seen n first.world (parts c.take_event.new.self.host c.carry_out-due.new.children c.take_event.new.self.sink c.take_event.new.self.agenda))
    (printing None (c.in-Ok.outcome ∷ []) [] ++ taking_due c.carry_out-due.result ++ rest) (λ (done : Unit {0}). taking_due c.carry_out-due.result ++ rest)
    (λ (due : Option Event). taking_due due ++ rest) c.in-Err-print_event.why
    (n, (parts c.print_event.new.self.host c.print_event.new.self.sources c.print_event.new.self.sink c.print_event.new.self.agenda))
    (c.in-Err-print_event.ensures.did n (taking_due c.carry_out-due.result ++ rest) first.world first.stands)))

pub returns-in-Err-clause-did : goal.returns-in-Err-clause-did
returns-in-Err-clause-did g c =
    let R = rules (agenda_rules g.A.Agenda.rules g.A.Joins.joins) (source_rules g.S.Children.after g.S.Sources.wakes g.S.Sources.clock) g.K.Sink.rules in
    let here = parts c.args.self.now.host c.args.self.now.sources c.args.self.now.sink c.args.self.now.agenda in
    λ n rest w h.
    did_fail R (seen n w here) (take_alone c.args.event ∷ rest) (λ (o : Outcome). carry o ∷ rest) (λ (due : Option Event). taking_due due ++ rest) c.in-Err.why
    (n, (parts c.take_event.new.self.host c.take_event.new.self.sources c.take_event.new.self.sink c.take_event.new.self.agenda))
    (c.in-Err.ensures.did n rest w h)
