use Rattle.std.proofs.Common.{sym, subst}
use Rattle.std.specs.Prelude.{IfErr}
use Rattle.session_engine.specs.Host.{HostView, IsHost}
use Rattle.session_engine.specs.Groups.{HaltsUpTo}
use Rattle.session_engine.proofs.host.Host.play_group_up_to.Goals as goal

pub returns-clause-halts : goal.returns-clause-halts
returns-clause-halts g c = λ w h.
    subst (λ (v : HostView). IfErr c.play_group_up_to.result (HaltsUpTo w c.args.events.items v c.play_group_up_to.new.self)) c.self.view_is
    (c.play_group_up_to.ensures.halts w (subst (λ (v : HostView). IsHost v w) (sym c.self.view_is) h))
