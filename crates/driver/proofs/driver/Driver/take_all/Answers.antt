use Rattle.std.proofs.Common.{inl, inr, Err, ◌∷◌, ◌++◌, arith, length, subst, sym}
use Rattle.offline_programs.specs.declared.fault.RunFault.{RunFault}
use Rattle.session_engine.specs.declared.whole.Whole.{Whole}
use Rattle.driver.specs.Place.{agenda_rules, rules, source_rules}
use Rattle.driver.specs.Items.{take_transaction}
use Rattle.driver.specs.Runs.{DidSteps, left_by_answer, parts, seen}
use Rattle.driver.specs.Steps.{most_together}
use Rattle.driver.specs.inside.Wholes.{printing_whole}
use Rattle.driver.proofs.Wholes.{failed_whole, few_at_most, served_whole, too_many_at_once}
use Rattle.driver.proofs.driver.Driver.take_all.Goals as goal

pub returns-then-len-gt-MOST_TOGETHER-clause-did : goal.returns-then-len-gt-MOST_TOGETHER-clause-did
returns-then-len-gt-MOST_TOGETHER-clause-did g c =
    let R = rules (agenda_rules g.A.Agenda.rules g.A.Joins.joins) (source_rules g.S.Children.after g.S.Sources.wakes g.S.Sources.clock) g.K.Sink.rules in
    λ n rest w h. too_many_at_once R n rest w c.args.self.now.host h c.args.first c.args.edits c.args.self.now.sources c.args.self.now.sink c.args.self.now.agenda _ (inl (omega (arith, c.if-len-gt-MOST_TOGETHER.true, c.len.ensures.len)))

pub returns-then-is_uncounted-clause-did : goal.returns-then-is_uncounted-clause-did
returns-then-is_uncounted-clause-did g c =
    let R = rules (agenda_rules g.A.Agenda.rules g.A.Joins.joins) (source_rules g.S.Children.after g.S.Sources.wakes g.S.Sources.clock) g.K.Sink.rules in
    λ n rest w h. too_many_at_once R n rest w c.args.self.now.host h c.args.first c.args.edits c.args.self.now.sources c.args.self.now.sink c.args.self.now.agenda _ (inr (c.is_uncounted.ensures.yes c.if-is_uncounted.true))

pub returns-in-Ok-clause-did : goal.returns-in-Ok-clause-did
returns-in-Ok-clause-did g c =
    let R = rules (agenda_rules g.A.Agenda.rules g.A.Joins.joins) (source_rules g.S.Children.after g.S.Sources.wakes g.S.Sources.clock) g.K.Sink.rules in
    λ n rest w h. served_whole R n rest w c.args.self.now.host h c.args.first c.args.edits c.args.self.now.sources c.args.self.now.sink c.args.self.now.agenda c.serve_whole.new.host c.in-Ok.whole (c.in-Ok.ensures.ok w h)

pub returns-in-Ok-clause-few : goal.returns-in-Ok-clause-few
returns-in-Ok-clause-few g c = few_at_most most_together (length c.args.edits) c.in-Ok.whole (omega (arith, c.if-len-gt-MOST_TOGETHER.false, c.len.ensures.len)) c.in-Ok.ensures.few

pub returns-in-Err-clause-did : goal.returns-in-Err-clause-did
returns-in-Err-clause-did g c =
    let R = rules (agenda_rules g.A.Agenda.rules g.A.Joins.joins) (source_rules g.S.Children.after g.S.Sources.wakes g.S.Sources.clock) g.K.Sink.rules in
    let here = parts c.args.self.now.host c.args.self.now.sources c.args.self.now.sink c.args.self.now.agenda in
    λ n rest w h.
    subst (λ (why : RunFault). DidSteps R (seen n w here) (take_transaction c.args.first c.args.edits ∷ rest)
    (left_by_answer (λ (x : Whole). printing_whole c.args.first x ++ rest)) (Err why)
    (n, parts c.serve_whole.new.host c.args.self.now.sources c.args.self.now.sink c.args.self.now.agenda)) (sym c.whole_fault.ensures)
    (failed_whole R n rest w c.args.self.now.host h c.args.first c.args.edits c.args.self.now.sources c.args.self.now.sink c.args.self.now.agenda _ c.serve_whole.new.host c.in-Err.fault (c.in-Err.ensures.err w h))
