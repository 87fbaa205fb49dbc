use Rattle.std.proofs.Common.{◌≡◌}
use Rattle.arrivals.proofs.polled.PolledSources.watch.Given as goal

abbrev pub invariant-loop : goal.invariant-loop
invariant-loop g l = l.self.children ≡ l.fn.self.children
