use Rattle.std.proofs.Common.{sym, subst}
use Rattle.session_engine.specs.Host.{HostView, EngineStandsFor}
use Rattle.session_engine.proofs.buffered.BufferedHost.is_waiting.Goals as goal

pub returns : goal.returns
returns g c = λ w h. c.is_in_flight.ensures w (subst (λ (v : HostView). EngineStandsFor v.store v.lives v.begun w) (sym c.self.view_is) h.stands)
