use Rattle.std.proofs.Common.{take}
use Rattle.std.specs.Io.KnownBytes.{Appends}
use Rattle.session_engine.specs.World.{World}
use Rattle.session_engine.specs.Host.{IsHost}
use Rattle.driver.specs.Reports.{lives_report}
use Rattle.driver.proofs.voiced.print_lives.Given as goal

abbrev pub invariant-loop-outcome : goal.invariant-loop-outcome
invariant-loop-outcome g l = (w : World) → IsHost l.host w → Appends (g.W.Write.contents l.initial.writer) (g.W.Write.contents l.writer)
    (lives_report g.T.Tells.voice w (take l.outcome-index l.outcomes))
