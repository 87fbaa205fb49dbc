use Rattle.std.proofs.Common.{◌+◌, arith}
use Rattle.driver.specs.Place.{agenda_rules, rules, source_rules}
use Rattle.driver.proofs.Wholes.{refusal_uncounted}
use Rattle.driver.proofs.driver.Driver.print_refusal.Goals as goal

pub overflow_add-number : goal.overflow_add-number
overflow_add-number g c = omega (arith, c.requires.few, c.requires.counted)

pub returns-then-is_uncounted-clause-did : goal.returns-then-is_uncounted-clause-did
returns-then-is_uncounted-clause-did g c =
    let R = rules (agenda_rules g.A.Agenda.rules g.A.Joins.joins) (source_rules g.S.Children.after g.S.Sources.wakes g.S.Sources.clock) g.K.Sink.rules in
    λ n rest w h. refusal_uncounted R n rest w c.args.self.now.host h c.args.self.now.sources c.args.self.now.sink c.args.self.now.agenda
    (c.args.first + c.args.before) c.args.last (c.is_uncounted.ensures.yes c.if-is_uncounted.true)
