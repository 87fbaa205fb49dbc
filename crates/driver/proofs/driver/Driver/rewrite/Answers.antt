use Rattle.std.proofs.Common.{arith}
use Rattle.driver.specs.Place.{agenda_rules, rules, source_rules}
use Rattle.session_engine.specs.Does.{following}
use Rattle.driver.specs.Runs.{left_by_answer, parts}
use Rattle.driver.proofs.Doing.{did_rewrite, rewrite_failed, rewrite_uncounted}
use Rattle.driver.proofs.driver.Driver.rewrite.Goals as goal

pub returns-then-line-gt-MOST_COUNTED-clause-did : goal.returns-then-line-gt-MOST_COUNTED-clause-did
returns-then-line-gt-MOST_COUNTED-clause-did g c =
    let R = rules (agenda_rules g.A.Agenda.rules g.A.Joins.joins) (source_rules g.S.Children.after g.S.Sources.wakes g.S.Sources.clock) g.K.Sink.rules in
    λ n rest w h. rewrite_uncounted R n rest w c.args.self.now.host h c.args.self.now.sources c.args.self.now.sink c.args.self.now.agenda c.args.line
    (λ done. rest) (omega (arith, c.if-line-gt-MOST_COUNTED.true))

pub returns-in-Ok-clause-did : goal.returns-in-Ok-clause-did
returns-in-Ok-clause-did g c =
    let R = rules (agenda_rules g.A.Agenda.rules g.A.Joins.joins) (source_rules g.S.Children.after g.S.Sources.wakes g.S.Sources.clock) g.K.Sink.rules in
    λ n rest w h. let t = c.in-Ok.ensures.took w h in did_rewrite R n rest w c.args.self.now.host h c.args.self.now.sources c.args.self.now.sink c.args.self.now.agenda c.args.line c.in-Ok.outcome c.checkpoint.new.self (left_by_answer (λ done. rest)) c.print_alone.result (n, (parts c.print_alone.new.self.host c.print_alone.new.self.sources c.print_alone.new.self.sink c.print_alone.new.self.agenda)) c.checkpoint.ensures.same t (c.print_alone.ensures.did n rest (following w t.did) t.stands)

pub returns-in-Err-clause-did : goal.returns-in-Err-clause-did
returns-in-Err-clause-did g c =
    let R = rules (agenda_rules g.A.Agenda.rules g.A.Joins.joins) (source_rules g.S.Children.after g.S.Sources.wakes g.S.Sources.clock) g.K.Sink.rules in
    λ n rest w h. rewrite_failed R n rest w c.args.self.now.host h c.args.self.now.sources c.args.self.now.sink c.args.self.now.agenda c.args.line c.checkpoint.new.self c.in-Err.fault (λ done. rest) c.checkpoint.ensures.same c.in-Err.ensures.closes (c.in-Err.ensures.failed w h)
