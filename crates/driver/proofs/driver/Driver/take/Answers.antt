use Rattle.std.proofs.Common.{inl, inr, subst, sym, arith}
use Rattle.offline_programs.specs.declared.fault.RunFault.{RunFault}
use Rattle.driver.specs.Place.{agenda_rules, rules, source_rules}
use Rattle.std.proofs.Common.{◌++◌, ◌∷◌, Err}
use Rattle.child_edge.specs.declared.together.GaveTogether.{GaveTogether}
use Rattle.child_edge.proofs.Gates.{as_many}
use Rattle.driver.specs.Items.{printing, take}
use Rattle.driver.specs.Runs.{DidSteps, left_by_answer, parts, seen}
use Rattle.driver.proofs.Doing.{failed_together, too_many_events, took_together}
use Rattle.driver.proofs.driver.Driver.take.Goals as goal

pub returns-then-len-gt-MOST_TOGETHER-clause-did : goal.returns-then-len-gt-MOST_TOGETHER-clause-did
returns-then-len-gt-MOST_TOGETHER-clause-did g c =
    let R = rules (agenda_rules g.A.Agenda.rules g.A.Joins.joins) (source_rules g.S.Children.after g.S.Sources.wakes g.S.Sources.clock) g.K.Sink.rules in
    λ n rest w h. too_many_events R n rest w c.args.self.now.host h c.args.from c.args.events.items c.args.self.now.sources c.args.self.now.sink c.args.self.now.agenda _ (inl (omega (arith, c.if-len-gt-MOST_TOGETHER.true, c.len.ensures)))

pub returns-then-is_uncounted-clause-did : goal.returns-then-is_uncounted-clause-did
returns-then-is_uncounted-clause-did g c =
    let R = rules (agenda_rules g.A.Agenda.rules g.A.Joins.joins) (source_rules g.S.Children.after g.S.Sources.wakes g.S.Sources.clock) g.K.Sink.rules in
    λ n rest w h. too_many_events R n rest w c.args.self.now.host h c.args.from c.args.events.items c.args.self.now.sources c.args.self.now.sink c.args.self.now.agenda _ (inr (c.is_uncounted.ensures.yes c.if-is_uncounted.true))

pub returns-then-len-gt-MOST_TOGETHER-2-clause-did : goal.returns-then-len-gt-MOST_TOGETHER-2-clause-did
returns-then-len-gt-MOST_TOGETHER-2-clause-did g c = λ n rest w h. let r = c.in-Ok.ensures.ok w h in let same = as_many w c.args.events.items c.in-Ok.gave.outcomes.items r.run.middle r.run.kept.runs in absurd (omega (arith, same, c.if-len-gt-MOST_TOGETHER.false, c.len.ensures, c.if-len-gt-MOST_TOGETHER-2.true, c.len-in-Ok.ensures))

pub returns-else-len-gt-MOST_TOGETHER-2-clause-did : goal.returns-else-len-gt-MOST_TOGETHER-2-clause-did
returns-else-len-gt-MOST_TOGETHER-2-clause-did g c =
    let R = rules (agenda_rules g.A.Agenda.rules g.A.Joins.joins) (source_rules g.S.Children.after g.S.Sources.wakes g.S.Sources.clock) g.K.Sink.rules in
    λ n rest w h. took_together R n rest w c.args.self.now.host h c.args.from c.args.events.items c.args.self.now.sources c.args.self.now.sink c.args.self.now.agenda c.serve_together.new.children c.serve_together.new.host c.in-Ok.gave (c.in-Ok.ensures.ok w h)

pub returns-in-Err-clause-did : goal.returns-in-Err-clause-did
returns-in-Err-clause-did g c =
    let R = rules (agenda_rules g.A.Agenda.rules g.A.Joins.joins) (source_rules g.S.Children.after g.S.Sources.wakes g.S.Sources.clock) g.K.Sink.rules in
    let here = parts c.args.self.now.host c.args.self.now.sources c.args.self.now.sink c.args.self.now.agenda in
    λ n rest w h. subst (λ (why : RunFault). DidSteps R (seen n w here) (take c.args.from c.args.events.items ∷ rest)
    (left_by_answer (λ (x : GaveTogether). printing c.args.from x.outcomes.items x.replies.items ++ rest)) (Err why)
    (n, parts c.serve_together.new.host c.serve_together.new.children c.args.self.now.sink c.args.self.now.agenda)) (sym c.gate_fault.ensures)
    (failed_together R n rest w c.args.self.now.host h c.args.from c.args.events.items c.args.self.now.sources c.args.self.now.sink c.args.self.now.agenda _ c.serve_together.new.children c.serve_together.new.host c.in-Err.fault (c.in-Err.ensures.err w h))
