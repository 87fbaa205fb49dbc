use Rattle.std.proofs.Common.{List, [], ◌∷◌, Ok, Err, subst}
use Rattle.host_events.specs.declared.outcome.Outcome.{Outcome}
use Rattle.driver.specs.Place.{agenda_rules, rules, source_rules}
use Rattle.driver.specs.Reports.{came, followed, lines}
use Rattle.driver.specs.Items.{heed, print}
use Rattle.driver.specs.Runs.{DidSteps, left_by_answer, parts, seen}
use Rattle.driver.proofs.Running.{did_fail, did_then}
use Rattle.driver.proofs.driver.Driver.print_alone.Goals as goal

pub returns-in-Err-clause-did : goal.returns-in-Err-clause-did
returns-in-Err-clause-did g c =
    let R = rules (agenda_rules g.A.Agenda.rules g.A.Joins.joins) (source_rules g.S.Children.after g.S.Sources.wakes g.S.Sources.clock) g.K.Sink.rules in
    let here = parts c.args.self.now.host c.args.self.now.sources c.args.self.now.sink c.args.self.now.agenda in
    λ n rest w h.
    did_fail R (seen n w here) (print (lines c.args.line (c.args.outcome ∷ [])) ∷ (print (followed []) ∷ heed (came (c.args.outcome ∷ []) []) ∷ rest))
    (λ (done : Unit {0}). (print (followed []) ∷ heed (came (c.args.outcome ∷ []) []) ∷ rest)) (λ (done : Unit {0}). rest) c.in-Err.why
    (n, (parts c.print_outcomes.new.self.host c.print_outcomes.new.self.sources c.print_outcomes.new.self.sink c.print_outcomes.new.self.agenda))
    (subst (λ (os : List Outcome). DidSteps {T = Unit {0}} R (seen n w here)
    (print (lines c.args.line os) ∷ (print (followed []) ∷ heed (came (c.args.outcome ∷ []) []) ∷ rest))
    (left_by_answer (λ (done : Unit {0}). (print (followed []) ∷ heed (came (c.args.outcome ∷ []) []) ∷ rest))) (Err c.in-Err.why)
    (n, (parts c.print_outcomes.new.self.host c.print_outcomes.new.self.sources c.print_outcomes.new.self.sink c.print_outcomes.new.self.agenda))) c.from_ref.ensures.value (c.in-Err.ensures.did n (print (followed []) ∷ heed (came (c.args.outcome ∷ []) []) ∷ rest) w h))

pub returns-in-Err-print_followed-clause-did : goal.returns-in-Err-print_followed-clause-did
returns-in-Err-print_followed-clause-did g c =
    let R = rules (agenda_rules g.A.Agenda.rules g.A.Joins.joins) (source_rules g.S.Children.after g.S.Sources.wakes g.S.Sources.clock) g.K.Sink.rules in
    let here = parts c.args.self.now.host c.args.self.now.sources c.args.self.now.sink c.args.self.now.agenda in
    λ n rest w h.
    let first = subst (λ (os : List Outcome). DidSteps {T = Unit {0}} R (seen n w here)
    (print (lines c.args.line os) ∷ (print (followed []) ∷ heed (came (c.args.outcome ∷ []) []) ∷ rest))
    (left_by_answer (λ (done : Unit {0}). (print (followed []) ∷ heed (came (c.args.outcome ∷ []) []) ∷ rest))) (Ok tt)
    (n, (parts c.print_outcomes.new.self.host c.print_outcomes.new.self.sources c.print_outcomes.new.self.sink c.print_outcomes.new.self.agenda))) c.from_ref.ensures.value (c.in_default.ensures.did n (print (followed []) ∷ heed (came (c.args.outcome ∷ []) []) ∷ rest) w h) in
    did_then R (seen n w here) (print (lines c.args.line (c.args.outcome ∷ [])) ∷ (print (followed []) ∷ heed (came (c.args.outcome ∷ []) []) ∷ rest))
    (λ (done : Unit {0}). (print (followed []) ∷ heed (came (c.args.outcome ∷ []) []) ∷ rest)) tt n
    (parts c.print_outcomes.new.self.host c.print_outcomes.new.self.sources c.print_outcomes.new.self.sink c.print_outcomes.new.self.agenda)
    (left_by_answer (λ (done : Unit {0}). rest)) (Err c.in-Err-print_followed.why)
    (n, (parts c.print_followed.new.self.host c.print_followed.new.self.sources c.print_followed.new.self.sink c.print_followed.new.self.agenda)) first
    (did_fail R (seen n first.world (parts c.print_outcomes.new.self.host c.print_outcomes.new.self.sources c.print_outcomes.new.self.sink c.print_outcomes.new.self.agenda)) (print (followed []) ∷ heed (came (c.args.outcome ∷ []) []) ∷ rest) (λ (done : Unit {0}). (heed (came (c.args.outcome ∷ []) []) ∷ rest)) (λ (done : Unit {0}). rest) c.in-Err-print_followed.why (n, (parts c.print_followed.new.self.host c.print_followed.new.self.sources c.print_followed.new.self.sink c.print_followed.new.self.agenda))
    (c.in-Err-print_followed.ensures.did n (heed (came (c.args.outcome ∷ []) []) ∷ rest) first.world first.stands))

pub returns-clause-did : goal.returns-clause-did
returns-clause-did g c =
    let R = rules (agenda_rules g.A.Agenda.rules g.A.Joins.joins) (source_rules g.S.Children.after g.S.Sources.wakes g.S.Sources.clock) g.K.Sink.rules in
    let here = parts c.args.self.now.host c.args.self.now.sources c.args.self.now.sink c.args.self.now.agenda in
    λ n rest w h.
    let first = subst (λ (os : List Outcome). DidSteps {T = Unit {0}} R (seen n w here)
    (print (lines c.args.line os) ∷ (print (followed []) ∷ heed (came (c.args.outcome ∷ []) []) ∷ rest))
    (left_by_answer (λ (done : Unit {0}). (print (followed []) ∷ heed (came (c.args.outcome ∷ []) []) ∷ rest))) (Ok tt)
    (n, (parts c.print_outcomes.new.self.host c.print_outcomes.new.self.sources c.print_outcomes.new.self.sink c.print_outcomes.new.self.agenda))) c.from_ref.ensures.value (c.in_default.ensures.did n (print (followed []) ∷ heed (came (c.args.outcome ∷ []) []) ∷ rest) w h) in
    let second = c.in_default-print_followed.ensures.did n (heed (came (c.args.outcome ∷ []) []) ∷ rest) first.world first.stands in
    did_then R (seen n w here) (print (lines c.args.line (c.args.outcome ∷ [])) ∷ (print (followed []) ∷ heed (came (c.args.outcome ∷ []) []) ∷ rest))
    (λ (done : Unit {0}). (print (followed []) ∷ heed (came (c.args.outcome ∷ []) []) ∷ rest)) tt n
    (parts c.print_outcomes.new.self.host c.print_outcomes.new.self.sources c.print_outcomes.new.self.sink c.print_outcomes.new.self.agenda)
    (left_by_answer (λ (done : Unit {0}). rest)) c.heed.result
    (n, (parts c.heed.new.self.host c.heed.new.self.sources c.heed.new.self.sink c.heed.new.self.agenda)) first
    (did_then R (seen n first.world (parts c.print_outcomes.new.self.host c.print_outcomes.new.self.sources c.print_outcomes.new.self.sink c.print_outcomes.new.self.agenda)) (print (followed []) ∷ heed (came (c.args.outcome ∷ []) []) ∷ rest) (λ (done : Unit {0}). (heed (came (c.args.outcome ∷ []) []) ∷ rest)) tt n (parts c.print_followed.new.self.host c.print_followed.new.self.sources c.print_followed.new.self.sink c.print_followed.new.self.agenda) (left_by_answer (λ (done : Unit {0}). rest)) c.heed.result (n, (parts c.heed.new.self.host c.heed.new.self.sources c.heed.new.self.sink c.heed.new.self.agenda)) second
    (c.heed.ensures.did n rest second.world second.stands))
