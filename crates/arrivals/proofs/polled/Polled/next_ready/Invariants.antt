use Rattle.std.specs.Prelude.{◌≡◌, vec_len}
use Rattle.arrivals.proofs.polled.Polled.next_ready.Given as goal

abbrev pub decreases-loop-seat : goal.decreases-loop-seat
decreases-loop-seat g l = vec_len l.self.ready

abbrev pub invariant-loop-seat : goal.invariant-loop-seat
invariant-loop-seat g l = l.self.children ≡ l.fn.self.children
