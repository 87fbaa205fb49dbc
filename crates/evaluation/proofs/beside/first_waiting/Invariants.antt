use Rattle.session_engine.specs.World.{World}
use Rattle.session_engine.specs.Host.{IsHost}
use Rattle.evaluation.specs.inside.Beside.{NoneBetween}
use Rattle.evaluation.proofs.beside.first_waiting.Given as goal

abbrev pub invariant-loop-at : goal.invariant-loop-at
invariant-loop-at g l = (w : World) → IsHost l.host w → NoneBetween w l.ids l.from l.at
