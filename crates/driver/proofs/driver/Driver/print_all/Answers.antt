use Rattle.std.proofs.Common.{List, ◌∷◌, ◌++◌, Ok, Err, subst}
use Rattle.host_events.specs.declared.outcome.Outcome.{Outcome}
use Rattle.host_events.specs.declared.reply.Reply.{Reply}
use Rattle.driver.specs.Place.{agenda_rules, rules, source_rules}
use Rattle.driver.specs.Reports.{came, followed, lives}
use Rattle.driver.specs.Items.{heed, joined_lines, print}
use Rattle.driver.specs.Runs.{DidSteps, left_by_answer, parts, seen}
use Rattle.driver.proofs.Running.{did_fail, did_then}
use Rattle.driver.proofs.driver.Driver.print_all.Goals as goal

pub returns-in-Err-clause-did : goal.returns-in-Err-clause-did
returns-in-Err-clause-did g c =
    let R = rules (agenda_rules g.A.Agenda.rules g.A.Joins.joins) (source_rules g.S.Children.after g.S.Sources.wakes g.S.Sources.clock) g.K.Sink.rules in
    let here = parts c.args.self.now.host c.args.self.now.sources c.args.self.now.sink c.args.self.now.agenda in
    λ n rest w h.
    did_fail R (seen n w here) (print (lives c.args.gave.outcomes.items) ∷ (joined_lines c.args.gave.first c.args.gave.later.items
    (print (followed c.args.gave.replies.items) ∷ heed (came (c.args.gave.outcomes.items ++ c.args.gave.later.items) c.args.gave.replies.items) ∷ rest)))
    (λ (done : Unit {0}). (joined_lines c.args.gave.first c.args.gave.later.items
    (print (followed c.args.gave.replies.items) ∷ heed (came (c.args.gave.outcomes.items ++ c.args.gave.later.items) c.args.gave.replies.items) ∷ rest)))
    (λ (done : Unit {0}). rest) c.in-Err.why (n, (parts c.print_outcomes.new.self.host c.print_outcomes.new.self.sources c.print_outcomes.new.self.sink c.print_outcomes.new.self.agenda))
    (subst (λ (os : List Outcome). DidSteps {T = Unit {0}} R (seen n w here)
    (print (lives os) ∷ (joined_lines c.args.gave.first c.args.gave.later.items
    (print (followed c.args.gave.replies.items) ∷ heed (came (c.args.gave.outcomes.items ++ c.args.gave.later.items) c.args.gave.replies.items) ∷ rest)))
    (left_by_answer (λ (done : Unit {0}). (joined_lines c.args.gave.first c.args.gave.later.items
    (print (followed c.args.gave.replies.items) ∷ heed (came (c.args.gave.outcomes.items ++ c.args.gave.later.items) c.args.gave.replies.items) ∷ rest))))
    (Err c.in-Err.why) (n, (parts c.print_outcomes.new.self.host c.print_outcomes.new.self.sources c.print_outcomes.new.self.sink c.print_outcomes.new.self.agenda))) c.as_slice.ensures.value (c.in-Err.ensures.did n (joined_lines c.args.gave.first c.args.gave.later.items (print (followed c.args.gave.replies.items) ∷ heed (came (c.args.gave.outcomes.items ++ c.args.gave.later.items) c.args.gave.replies.items) ∷ rest)) w h))

pub returns-in-Err-print_joined-clause-did : goal.returns-in-Err-print_joined-clause-did
returns-in-Err-print_joined-clause-did g c =
    let R = rules (agenda_rules g.A.Agenda.rules g.A.Joins.joins) (source_rules g.S.Children.after g.S.Sources.wakes g.S.Sources.clock) g.K.Sink.rules in
    let here = parts c.args.self.now.host c.args.self.now.sources c.args.self.now.sink c.args.self.now.agenda in
    λ n rest w h.
    let first = subst (λ (os : List Outcome). DidSteps {T = Unit {0}} R (seen n w here)
    (print (lives os) ∷ (joined_lines c.args.gave.first c.args.gave.later.items
    (print (followed c.args.gave.replies.items) ∷ heed (came (c.args.gave.outcomes.items ++ c.args.gave.later.items) c.args.gave.replies.items) ∷ rest)))
    (left_by_answer (λ (done : Unit {0}). (joined_lines c.args.gave.first c.args.gave.later.items
    (print (followed c.args.gave.replies.items) ∷ heed (came (c.args.gave.outcomes.items ++ c.args.gave.later.items) c.args.gave.replies.items) ∷ rest))))
    (Ok tt) (n, (parts c.print_outcomes.new.self.host c.print_outcomes.new.self.sources c.print_outcomes.new.self.sink c.print_outcomes.new.self.agenda))) c.as_slice.ensures.value (c.in_default.ensures.did n (joined_lines c.args.gave.first c.args.gave.later.items (print (followed c.args.gave.replies.items) ∷ heed (came (c.args.gave.outcomes.items ++ c.args.gave.later.items) c.args.gave.replies.items) ∷ rest)) w h) in
    did_then R (seen n w here) (print (lives c.args.gave.outcomes.items) ∷ (joined_lines c.args.gave.first c.args.gave.later.items
    (print (followed c.args.gave.replies.items) ∷ heed (came (c.args.gave.outcomes.items ++ c.args.gave.later.items) c.args.gave.replies.items) ∷ rest)))
    (λ (done : Unit {0}). (joined_lines c.args.gave.first c.args.gave.later.items
    (print (followed c.args.gave.replies.items) ∷ heed (came
    (c.args.gave.outcomes.items ++ c.args.gave.later.items) c.args.gave.replies.items) ∷ rest))) tt n
    (parts c.print_outcomes.new.self.host c.print_outcomes.new.self.sources c.print_outcomes.new.self.sink c.print_outcomes.new.self.agenda)
    (left_by_answer (λ (done : Unit {0}). rest)) (Err c.in-Err-print_joined.why)
    (n, (parts c.print_joined.new.self.host c.print_joined.new.self.sources c.print_joined.new.self.sink c.print_joined.new.self.agenda)) first
    (did_fail R (seen n first.world (parts c.print_outcomes.new.self.host c.print_outcomes.new.self.sources c.print_outcomes.new.self.sink c.print_outcomes.new.self.agenda)) (joined_lines c.args.gave.first c.args.gave.later.items (print (followed c.args.gave.replies.items) ∷ heed (came (c.args.gave.outcomes.items ++ c.args.gave.later.items) c.args.gave.replies.items) ∷ rest)) (λ (done : Unit {0}). (print (followed c.args.gave.replies.items) ∷ heed (came (c.args.gave.outcomes.items ++ c.args.gave.later.items) c.args.gave.replies.items) ∷ rest)) (λ (done : Unit {0}). rest) c.in-Err-print_joined.why (n, (parts c.print_joined.new.self.host c.print_joined.new.self.sources c.print_joined.new.self.sink c.print_joined.new.self.agenda)) (subst (λ (os : List Outcome). DidSteps {T = Unit {0}} R (seen n first.world (parts c.print_outcomes.new.self.host c.print_outcomes.new.self.sources c.print_outcomes.new.self.sink c.print_outcomes.new.self.agenda)) (joined_lines c.args.gave.first os (print (followed c.args.gave.replies.items) ∷ heed (came (c.args.gave.outcomes.items ++ c.args.gave.later.items) c.args.gave.replies.items) ∷ rest)) (left_by_answer (λ (done : Unit {0}). (print (followed c.args.gave.replies.items) ∷ heed (came (c.args.gave.outcomes.items ++ c.args.gave.later.items) c.args.gave.replies.items) ∷ rest))) (Err c.in-Err-print_joined.why) (n, (parts c.print_joined.new.self.host c.print_joined.new.self.sources c.print_joined.new.self.sink c.print_joined.new.self.agenda))) c.as_slice-2.ensures.value (c.in-Err-print_joined.ensures.did n (print (followed c.args.gave.replies.items) ∷ heed (came (c.args.gave.outcomes.items ++ c.args.gave.later.items) c.args.gave.replies.items) ∷ rest) first.world first.stands)))

pub returns-in-Err-print_followed-clause-did : goal.returns-in-Err-print_followed-clause-did
returns-in-Err-print_followed-clause-did g c =
    let R = rules (agenda_rules g.A.Agenda.rules g.A.Joins.joins) (source_rules g.S.Children.after g.S.Sources.wakes g.S.Sources.clock) g.K.Sink.rules in
    let here = parts c.args.self.now.host c.args.self.now.sources c.args.self.now.sink c.args.self.now.agenda in
    λ n rest w h.
    let first = subst (λ (os : List Outcome). DidSteps {T = Unit {0}} R (seen n w here)
    (print (lives os) ∷ (joined_lines c.args.gave.first c.args.gave.later.items
    (print (followed c.args.gave.replies.items) ∷ heed (came (c.args.gave.outcomes.items ++ c.args.gave.later.items) c.args.gave.replies.items) ∷ rest)))
    (left_by_answer (λ (done : Unit {0}). (joined_lines c.args.gave.first c.args.gave.later.items
    (print (followed c.args.gave.replies.items) ∷ heed (came (c.args.gave.outcomes.items ++ c.args.gave.later.items) c.args.gave.replies.items) ∷ rest))))
    (Ok tt) (n, (parts c.print_outcomes.new.self.host c.print_outcomes.new.self.sources c.print_outcomes.new.self.sink c.print_outcomes.new.self.agenda))) c.as_slice.ensures.value (c.in_default.ensures.did n (joined_lines c.args.gave.first c.args.gave.later.items (print (followed c.args.gave.replies.items) ∷ heed (came (c.args.gave.outcomes.items ++ c.args.gave.later.items) c.args.gave.replies.items) ∷ rest)) w h) in
    let second = subst (λ (os : List Outcome). DidSteps {T = Unit {0}} R
    (seen n first.world (parts c.print_outcomes.new.self.host c.print_outcomes.new.self.sources c.print_outcomes.new.self.sink c.print_outcomes.new.self.agenda)) (joined_lines c.args.gave.first os (print (followed c.args.gave.replies.items) ∷ heed (came (c.args.gave.outcomes.items ++ c.args.gave.later.items) c.args.gave.replies.items) ∷ rest)) (left_by_answer (λ (done : Unit {0}). (print (followed c.args.gave.replies.items) ∷ heed (came (c.args.gave.outcomes.items ++ c.args.gave.later.items) c.args.gave.replies.items) ∷ rest))) (Ok tt) (n, (parts c.print_joined.new.self.host c.print_joined.new.self.sources c.print_joined.new.self.sink c.print_joined.new.self.agenda))) c.as_slice-2.ensures.value (c.in_default-print_joined.ensures.did n (print (followed c.args.gave.replies.items) ∷ heed (came (c.args.gave.outcomes.items ++ c.args.gave.later.items) c.args.gave.replies.items) ∷ rest) first.world first.stands) in
    did_then R (seen n w here) (print (lives c.args.gave.outcomes.items) ∷ (joined_lines c.args.gave.first c.args.gave.later.items
    (print (followed c.args.gave.replies.items) ∷ heed (came (c.args.gave.outcomes.items ++ c.args.gave.later.items) c.args.gave.replies.items) ∷ rest)))
    (λ (done : Unit {0}). (joined_lines c.args.gave.first c.args.gave.later.items
    (print (followed c.args.gave.replies.items) ∷ heed (came
    (c.args.gave.outcomes.items ++ c.args.gave.later.items) c.args.gave.replies.items) ∷ rest))) tt n
    (parts c.print_outcomes.new.self.host c.print_outcomes.new.self.sources c.print_outcomes.new.self.sink c.print_outcomes.new.self.agenda)
    (left_by_answer (λ (done : Unit {0}). rest)) (Err c.in-Err-print_followed.why)
    (n, (parts c.print_followed.new.self.host c.print_followed.new.self.sources c.print_followed.new.self.sink c.print_followed.new.self.agenda)) first
    (did_then R (seen n first.world (parts c.print_outcomes.new.self.host c.print_outcomes.new.self.sources c.print_outcomes.new.self.sink c.print_outcomes.new.self.agenda)) (joined_lines c.args.gave.first c.args.gave.later.items (print (followed c.args.gave.replies.items) ∷ heed (came (c.args.gave.outcomes.items ++ c.args.gave.later.items) c.args.gave.replies.items) ∷ rest)) (λ (done : Unit {0}). (print (followed c.args.gave.replies.items) ∷ heed (came (c.args.gave.outcomes.items ++ c.args.gave.later.items) c.args.gave.replies.items) ∷ rest)) tt n (parts c.print_joined.new.self.host c.print_joined.new.self.sources c.print_joined.new.self.sink c.print_joined.new.self.agenda) (left_by_answer (λ (done : Unit {0}). rest)) (Err c.in-Err-print_followed.why) (n, (parts c.print_followed.new.self.host c.print_followed.new.self.sources c.print_followed.new.self.sink c.print_followed.new.self.agenda)) second
    (did_fail R (seen n second.world (parts c.print_joined.new.self.host c.print_joined.new.self.sources c.print_joined.new.self.sink c.print_joined.new.self.agenda)) (print (followed c.args.gave.replies.items) ∷ heed (came (c.args.gave.outcomes.items ++ c.args.gave.later.items) c.args.gave.replies.items) ∷ rest) (λ (done : Unit {0}). (heed (came (c.args.gave.outcomes.items ++ c.args.gave.later.items) c.args.gave.replies.items) ∷ rest)) (λ (done : Unit {0}). rest) c.in-Err-print_followed.why (n, (parts c.print_followed.new.self.host c.print_followed.new.self.sources c.print_followed.new.self.sink c.print_followed.new.self.agenda)) (subst (λ (rs : List Reply). DidSteps {T = Unit {0}} R (seen n second.world (parts c.print_joined.new.self.host c.print_joined.new.self.sources c.print_joined.new.self.sink c.print_joined.new.self.agenda)) (print (followed rs) ∷ (heed (came (c.args.gave.outcomes.items ++ c.args.gave.later.items) c.args.gave.replies.items) ∷ rest)) (left_by_answer (λ (done : Unit {0}). (heed (came (c.args.gave.outcomes.items ++ c.args.gave.later.items) c.args.gave.replies.items) ∷ rest))) (Err c.in-Err-print_followed.why) (n, (parts c.print_followed.new.self.host c.print_followed.new.self.sources c.print_followed.new.self.sink c.print_followed.new.self.agenda))) c.as_slice-3.ensures.value (c.in-Err-print_followed.ensures.did n (heed (came (c.args.gave.outcomes.items ++ c.args.gave.later.items) c.args.gave.replies.items) ∷ rest) second.world second.stands))))

pub returns-clause-did : goal.returns-clause-did
returns-clause-did g c =
    let R = rules (agenda_rules g.A.Agenda.rules g.A.Joins.joins) (source_rules g.S.Children.after g.S.Sources.wakes g.S.Sources.clock) g.K.Sink.rules in
    let here = parts c.args.self.now.host c.args.self.now.sources c.args.self.now.sink c.args.self.now.agenda in
    λ n rest w h.
    let first = subst (λ (os : List Outcome). DidSteps {T = Unit {0}} R (seen n w here)
    (print (lives os) ∷ (joined_lines c.args.gave.first c.args.gave.later.items
    (print (followed c.args.gave.replies.items) ∷ heed (came (c.args.gave.outcomes.items ++ c.args.gave.later.items) c.args.gave.replies.items) ∷ rest)))
    (left_by_answer (λ (done : Unit {0}). (joined_lines c.args.gave.first c.args.gave.later.items
    (print (followed c.args.gave.replies.items) ∷ heed (came (c.args.gave.outcomes.items ++ c.args.gave.later.items) c.args.gave.replies.items) ∷ rest))))
    (Ok tt) (n, (parts c.print_outcomes.new.self.host c.print_outcomes.new.self.sources c.print_outcomes.new.self.sink c.print_outcomes.new.self.agenda))) c.as_slice.ensures.value (c.in_default.ensures.did n (joined_lines c.args.gave.first c.args.gave.later.items (print (followed c.args.gave.replies.items) ∷ heed (came (c.args.gave.outcomes.items ++ c.args.gave.later.items) c.args.gave.replies.items) ∷ rest)) w h) in
    let second = subst (λ (os : List Outcome). DidSteps {T = Unit {0}} R
    (seen n first.world (parts c.print_outcomes.new.self.host c.print_outcomes.new.self.sources c.print_outcomes.new.self.sink c.print_outcomes.new.self.agenda)) (joined_lines c.args.gave.first os (print (followed c.args.gave.replies.items) ∷ heed (came (c.args.gave.outcomes.items ++ c.args.gave.later.items) c.args.gave.replies.items) ∷ rest)) (left_by_answer (λ (done : Unit {0}). (print (followed c.args.gave.replies.items) ∷ heed (came (c.args.gave.outcomes.items ++ c.args.gave.later.items) c.args.gave.replies.items) ∷ rest))) (Ok tt) (n, (parts c.print_joined.new.self.host c.print_joined.new.self.sources c.print_joined.new.self.sink c.print_joined.new.self.agenda))) c.as_slice-2.ensures.value (c.in_default-print_joined.ensures.did n (print (followed c.args.gave.replies.items) ∷ heed (came (c.args.gave.outcomes.items ++ c.args.gave.later.items) c.args.gave.replies.items) ∷ rest) first.world first.stands) in
    let third = subst (λ (rs : List Reply). DidSteps {T = Unit {0}} R
    (seen n second.world (parts c.print_joined.new.self.host c.print_joined.new.self.sources c.print_joined.new.self.sink c.print_joined.new.self.agenda))
    (print (followed rs) ∷ (heed (came (c.args.gave.outcomes.items ++ c.args.gave.later.items) c.args.gave.replies.items) ∷ rest))
    (left_by_answer (λ (done : Unit {0}). (heed (came (c.args.gave.outcomes.items ++ c.args.gave.later.items) c.args.gave.replies.items) ∷ rest))) (Ok tt)
    (n, (parts c.print_followed.new.self.host c.print_followed.new.self.sources c.print_followed.new.self.sink c.print_followed.new.self.agenda))) c.as_slice-3.ensures.value (c.in_default-print_followed.ensures.did n (heed (came (c.args.gave.outcomes.items ++ c.args.gave.later.items) c.args.gave.replies.items) ∷ rest) second.world second.stands) in
    did_then R (seen n w here) (print (lives c.args.gave.outcomes.items) ∷ (joined_lines c.args.gave.first c.args.gave.later.items
    (print (followed c.args.gave.replies.items) ∷ heed (came (c.args.gave.outcomes.items ++ c.args.gave.later.items) c.args.gave.replies.items) ∷ rest)))
    (λ (done : Unit {0}). (joined_lines c.args.gave.first c.args.gave.later.items
    (print (followed c.args.gave.replies.items) ∷ heed (came
    (c.args.gave.outcomes.items ++ c.args.gave.later.items) c.args.gave.replies.items) ∷ rest))) tt n
    (parts c.print_outcomes.new.self.host c.print_outcomes.new.self.sources c.print_outcomes.new.self.sink c.print_outcomes.new.self.agenda)
    (left_by_answer (λ (done : Unit {0}). rest)) c.heed.result
    (n, (parts c.heed.new.self.host c.heed.new.self.sources c.heed.new.self.sink c.heed.new.self.agenda)) first
    (did_then R (seen n first.world (parts c.print_outcomes.new.self.host c.print_outcomes.new.self.sources c.print_outcomes.new.self.sink c.print_outcomes.new.self.agenda)) (joined_lines c.args.gave.first c.args.gave.later.items (print (followed c.args.gave.replies.items) ∷ heed (came (c.args.gave.outcomes.items ++ c.args.gave.later.items) c.args.gave.replies.items) ∷ rest)) (λ (done : Unit {0}). (print (followed c.args.gave.replies.items) ∷ heed (came (c.args.gave.outcomes.items ++ c.args.gave.later.items) c.args.gave.replies.items) ∷ rest)) tt n (parts c.print_joined.new.self.host c.print_joined.new.self.sources c.print_joined.new.self.sink c.print_joined.new.self.agenda) (left_by_answer (λ (done : Unit {0}). rest)) c.heed.result (n, (parts c.heed.new.self.host c.heed.new.self.sources c.heed.new.self.sink c.heed.new.self.agenda)) second
    (did_then R (seen n second.world (parts c.print_joined.new.self.host c.print_joined.new.self.sources c.print_joined.new.self.sink c.print_joined.new.self.agenda)) (print (followed c.args.gave.replies.items) ∷ heed (came (c.args.gave.outcomes.items ++ c.args.gave.later.items) c.args.gave.replies.items) ∷ rest) (λ (done : Unit {0}). (heed (came (c.args.gave.outcomes.items ++ c.args.gave.later.items) c.args.gave.replies.items) ∷ rest)) tt n (parts c.print_followed.new.self.host c.print_followed.new.self.sources c.print_followed.new.self.sink c.print_followed.new.self.agenda) (left_by_answer (λ (done : Unit {0}). rest)) c.heed.result (n, (parts c.heed.new.self.host c.heed.new.self.sources c.heed.new.self.sink c.heed.new.self.agenda)) third
    (c.heed.ensures.did n rest third.world third.stands)))
