use Rattle.std.proofs.Common.{sym, subst, true}
use Rattle.std.proofs.lemmas.Result.{IfErr-weaker}
use Rattle.session_engine.specs.Host.{HostView, EngineStandsFor}
use Rattle.session_engine.specs.Faults.{CauseOf, Failed}
use Rattle.session_engine.specs.inside.Engines.{FailedAt, view_of}
use Rattle.session_engine.proofs.buffered.BufferedHost.step.Goals as goal

pub returns-then-is_err-clause-failed : goal.returns-then-is_err-clause-failed
returns-then-is_err-clause-failed g c = λ w h.
    let engine = c.self.inside.engine in
    let new = c.take-outcome.new.self in
    let stands = subst (λ (v : HostView). EngineStandsFor v.store v.lives v.begun w) (sym c.self.view_is) h.stands in
    IfErr-weaker c.take-outcome.result (FailedAt w c.args.event engine new) (Failed w c.args.event c.args.self.now (view_of new true))
    (λ fault f. record {
      contents = f.contents;
      numbers = f.numbers;
      cause = subst (λ (v : HostView). CauseOf w c.args.event v.store.disk new.store.disk fault) c.self.view_is f.cause;
    })
    (c.take-outcome.ensures.failed w stands)
