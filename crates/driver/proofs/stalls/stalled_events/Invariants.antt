use Rattle.std.proofs.Common.{◌≡◌, take, map}
use Rattle.driver.specs.Items.{stalls}
use Rattle.driver.proofs.stalls.stalled_events.Given as goal

abbrev pub invariant-loop-seat : goal.invariant-loop-seat
invariant-loop-seat l = l.events.items ≡ map stalls (take l.seat-index l.seats)
