use Rattle.std.proofs.Common.{◌≡◌, ◌∙◌, ℕ, ◌+◌, Some, [], ◌∷◌, ◌++◌, List, arith, length, subst, sym}
use Rattle.host_events.specs.declared.reply.Reply.{Reply}
use Rattle.session_engine.specs.Whole.{HasAtMost}
use Rattle.session_engine.specs.declared.whole.Whole.{Whole}
use Rattle.driver.specs.Items.{printing}
use Rattle.driver.specs.Place.{agenda_rules, rules, source_rules}
use Rattle.driver.specs.Runs.{DidSteps, left_by_answer, parts, seen}
use Rattle.driver.specs.Steps.{most_together}
use Rattle.driver.specs.inside.Wholes.{printing_whole}
use Rattle.driver.proofs.driver.Driver.print_whole.Goals as goal

pub print_group-requires-clause-few : goal.print_group-requires-clause-few
print_group-requires-clause-few g c = subst (HasAtMost most_together) c.in-Taken.is c.requires.few

pub print_refusal-requires-clause-few : goal.print_refusal-requires-clause-few
print_refusal-requires-clause-few g c = omega (arith, c.len.ensures, subst (HasAtMost most_together) c.in-Refused.is c.requires.few)

pub returns-in-Taken-clause-did : goal.returns-in-Taken-clause-did
returns-in-Taken-clause-did g c =
    let R = rules (agenda_rules g.A.Agenda.rules g.A.Joins.joins) (source_rules g.S.Children.after g.S.Sources.wakes g.S.Sources.clock) g.K.Sink.rules in
    let here = parts c.args.self.now.host c.args.self.now.sources c.args.self.now.sink c.args.self.now.agenda in
    λ n rest w h.
    subst (λ (x : Whole). DidSteps R (seen n w here) (printing_whole c.args.first x ++ rest) (left_by_answer (λ (done : Unit {0}). rest)) c.print_group.result
    (n, (parts c.print_group.new.self.host c.print_group.new.self.sources c.print_group.new.self.sink c.print_group.new.self.agenda))) (sym c.in-Taken.is)
    (subst (λ (rs : List Reply). DidSteps R (seen n w here) (printing (Some c.args.first) c.in-Taken.outcomes.items rs ++ rest)
    (left_by_answer (λ (done : Unit {0}). rest)) c.print_group.result
    (n, (parts c.print_group.new.self.host c.print_group.new.self.sources c.print_group.new.self.sink c.print_group.new.self.agenda))) c.new-replies.ensures.items
    (c.print_group.ensures.did n rest w h))

pub returns-in-Refused-clause-did : goal.returns-in-Refused-clause-did
returns-in-Refused-clause-did g c =
    let R = rules (agenda_rules g.A.Agenda.rules g.A.Joins.joins) (source_rules g.S.Children.after g.S.Sources.wakes g.S.Sources.clock) g.K.Sink.rules in
    let here = parts c.args.self.now.host c.args.self.now.sources c.args.self.now.sink c.args.self.now.agenda in
    λ n rest w h.
    let many : c.in-Refused.before.len ≡ length c.in-Refused.before.items = omega (arith, c.in-Refused.before.ok) in
    subst (λ (x : Whole). DidSteps R (seen n w here) (printing_whole c.args.first x ++ rest) (left_by_answer (λ (done : Unit {0}). rest)) c.print_refusal.result
    (n, (parts c.print_refusal.new.self.host c.print_refusal.new.self.sources c.print_refusal.new.self.sink c.print_refusal.new.self.agenda)))
    (sym c.in-Refused.is)
    (subst (λ (k : ℕ). DidSteps R (seen n w here) (printing (Some (c.args.first + k)) (c.in-Refused.last ∷ []) [] ++ rest)
    (left_by_answer (λ (done : Unit {0}). rest)) c.print_refusal.result
    (n, (parts c.print_refusal.new.self.host c.print_refusal.new.self.sources c.print_refusal.new.self.sink c.print_refusal.new.self.agenda)))
    (c.len.ensures ∙ many)
    (c.print_refusal.ensures.did n rest w h))
