use Rattle.std.proofs.Common.{◌≡◌}
use Rattle.session_engine.specs.World.{World}
use Rattle.session_engine.specs.Host.{IsHost}
use Rattle.child_edge.specs.Seats.{seats_of, waits}
use Rattle.child_edge.proofs.busy.is_idle.Given as goal

abbrev pub invariant-loop-session : goal.invariant-loop-session
invariant-loop-session g l = (w : World) → IsHost l.host w → seats_of w l.session-iterator ≡ waits w
