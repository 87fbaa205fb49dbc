use Rattle.std.proofs.Common.{arith}
use Rattle.driver.specs.Place.{agenda_rules, rules, source_rules}
use Rattle.driver.specs.Runs.{parts}
use Rattle.driver.proofs.Joined.{line_uncounted, none_joined, some_joined}
use Rattle.driver.proofs.driver.Driver.print_joined.Goals as goal

pub returns-in-None-clause-did : goal.returns-in-None-clause-did
returns-in-None-clause-did g c =
    let R = rules (agenda_rules g.A.Agenda.rules g.A.Joins.joins) (source_rules g.S.Children.after g.S.Sources.wakes g.S.Sources.clock) g.K.Sink.rules in
    λ n rest w h. none_joined R n rest w c.args.self.now.host h c.args.self.now.sources c.args.self.now.sink c.args.self.now.agenda c.args.first c.args.later.now _ c.in-None.is

pub returns-then-number-gt-MOST_COUNTED-clause-did : goal.returns-then-number-gt-MOST_COUNTED-clause-did
returns-then-number-gt-MOST_COUNTED-clause-did g c =
    let R = rules (agenda_rules g.A.Agenda.rules g.A.Joins.joins) (source_rules g.S.Children.after g.S.Sources.wakes g.S.Sources.clock) g.K.Sink.rules in
    let here = parts c.args.self.now.host c.args.self.now.sources c.args.self.now.sink c.args.self.now.agenda in
    λ n rest w h. some_joined R n rest w c.args.self.now.host h c.args.self.now.sources c.args.self.now.sink c.args.self.now.agenda c.args.first c.in-Some.number c.args.later.now _ (n, here) c.in-Some.is
    (line_uncounted R n rest w c.args.self.now.host h c.args.self.now.sources c.args.self.now.sink c.args.self.now.agenda c.in-Some.number c.args.later.now
    (omega (arith, c.if-number-gt-MOST_COUNTED.true)))

pub returns-else-number-gt-MOST_COUNTED-clause-did : goal.returns-else-number-gt-MOST_COUNTED-clause-did
returns-else-number-gt-MOST_COUNTED-clause-did g c =
    let R = rules (agenda_rules g.A.Agenda.rules g.A.Joins.joins) (source_rules g.S.Children.after g.S.Sources.wakes g.S.Sources.clock) g.K.Sink.rules in
    λ n rest w h. some_joined R n rest w c.args.self.now.host h c.args.self.now.sources c.args.self.now.sink c.args.self.now.agenda c.args.first c.in-Some.number c.args.later.now c.print_outcomes.result (n, (parts c.print_outcomes.new.self.host c.print_outcomes.new.self.sources c.print_outcomes.new.self.sink c.print_outcomes.new.self.agenda)) c.in-Some.is
    (c.print_outcomes.ensures.did n rest w h)
