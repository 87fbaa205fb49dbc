use Rattle.std.proofs.Common.{Option, ℕ, ◌∷◌, sym, subst}
use Rattle.driver.specs.Place.{agenda_rules, rules, source_rules}
use Rattle.driver.specs.Reports.{lines, lives}
use Rattle.driver.specs.Items.{group_of, print}
use Rattle.driver.specs.Runs.{DidSteps, left_by_answer, parts, seen}
use Rattle.driver.proofs.Doing.{did_print}
use Rattle.driver.proofs.driver.Driver.print_outcomes.Goals as goal

pub returns-in-Some-clause-did : goal.returns-in-Some-clause-did
returns-in-Some-clause-did g c =
    let R = rules (agenda_rules g.A.Agenda.rules g.A.Joins.joins) (source_rules g.S.Children.after g.S.Sources.wakes g.S.Sources.clock) g.K.Sink.rules in
    let here = parts c.args.self.now.host c.args.self.now.sources c.args.self.now.sink c.args.self.now.agenda in
    λ n rest w h. subst (λ (f : Option ℕ). DidSteps R (seen n w here) (print (group_of f c.args.outcomes.now) ∷ rest)
    (left_by_answer (λ done. rest)) c.lines.result (n, parts c.args.self.now.host c.args.self.now.sources c.lines.new.self c.args.self.now.agenda))
    (sym c.in-Some.is) (did_print R n rest w c.args.self.now.host h c.args.self.now.sources c.args.self.now.sink c.lines.new.self c.args.self.now.agenda
    (lines c.in-Some.number c.args.outcomes.now) c.lines.result (c.lines.ensures.tries w h) c.lines.ensures.err (c.lines.ensures.cut w h))

pub returns-in-None-clause-did : goal.returns-in-None-clause-did
returns-in-None-clause-did g c =
    let R = rules (agenda_rules g.A.Agenda.rules g.A.Joins.joins) (source_rules g.S.Children.after g.S.Sources.wakes g.S.Sources.clock) g.K.Sink.rules in
    let here = parts c.args.self.now.host c.args.self.now.sources c.args.self.now.sink c.args.self.now.agenda in
    λ n rest w h. subst (λ (f : Option ℕ). DidSteps R (seen n w here) (print (group_of f c.args.outcomes.now) ∷ rest)
    (left_by_answer (λ done. rest)) c.lives.result (n, parts c.args.self.now.host c.args.self.now.sources c.lives.new.self c.args.self.now.agenda))
    (sym c.in-None.is) (did_print R n rest w c.args.self.now.host h c.args.self.now.sources c.args.self.now.sink c.lives.new.self c.args.self.now.agenda
    (lives c.args.outcomes.now) c.lives.result (c.lives.ensures.tries w h) c.lives.ensures.err (c.lives.ensures.cut w h))
