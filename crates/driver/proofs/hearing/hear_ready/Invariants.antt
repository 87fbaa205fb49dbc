use Rattle.driver.specs.Place.{source_rules}
use Rattle.driver.specs.Hearing.{HeardUpTo}
use Rattle.driver.proofs.hearing.hear_ready.Given as goal

abbrev pub invariant-loop : goal.invariant-loop
invariant-loop g l = HeardUpTo (source_rules g.S.Children.after g.S.Sources.wakes g.S.Sources.clock) l.fn.seat l.counter l.fn.sources l.events.items l.sources
