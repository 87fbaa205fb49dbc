-- A crash image drawn one call further.
use Rattle.std.proofs.Common.{◌≡◌, List, [], ◌∷◌, ◌++◌, sym, ◌∙◌, ap, subst}
use Rattle.disk_model.specs.Disk.{DiskState, History, state_of}
use Rattle.disk_model.specs.Calls.{step, history_after}
use Rattle.disk_model.specs.inside.Drawing.{Draws}
use Rattle.disk_model.specs.declared.disk.Area.{Area}
use Rattle.disk_model.specs.declared.crash.Drawing.{Drawing}
use Rattle.disk_model.specs.declared.memory.Call.{Call}
use Rattle.disk_model.proofs.Record.{history-push}

-- the drawing keeps up with the history
pub drawn_on : (area : Area) (old new : Drawing) (h : History) (before after : List Call) (call : Call) → after ≡ before ++ call ∷ []
    → ((s : DiskState) → Draws old (state_of area s) → Draws new (state_of area (step s call)))
    → Draws old (state_of area (history_after h before).now) → Draws new (state_of area (history_after h after).now)
drawn_on area old new h before after call is follows drawn =
    let now : (history_after h after).now ≡ step (history_after h before).now call = ap (λ (l : List Call). (history_after h l).now) is ∙ ap (λ (g : History). g.now) (history-push before h call) in
    subst (λ (s : DiskState). Draws new (state_of area s)) (sym now) (follows (history_after h before).now drawn)
