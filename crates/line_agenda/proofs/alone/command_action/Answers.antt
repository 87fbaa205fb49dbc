use Rattle.std.proofs.Common.{inr, refl}
use Rattle.line_agenda.proofs.alone.command_action.Goals as goal

pub returns-in-Ok : goal.returns-in-Ok
returns-in-Ok c = inr (c.in-Ok.ensures.0, (c.in-Ok.events, refl, c.in-Ok.ensures.1))
