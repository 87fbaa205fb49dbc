use Rattle.std.proofs.Common.{◌≡◌}
use Rattle.arrivals.proofs.polled.Polled.keep_ready.Given as goal

abbrev pub invariant-loop-at : goal.invariant-loop-at
invariant-loop-at g l = l.self.children ≡ l.fn.self.children
