use Rattle.session_engine.specs.World.{World}
use Rattle.session_engine.specs.Host.{IsHost}
use Rattle.evaluation.specs.inside.Beside.{SeatsLeft}
use Rattle.evaluation.proofs.beside.wait_in_fewer.Given as goal

abbrev pub invariant-loop-session : goal.invariant-loop-session
invariant-loop-session g l = (w : World) → IsHost l.host w → SeatsLeft l.most w l.session-iterator l.left
