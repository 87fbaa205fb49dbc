use Rattle.std.proofs.Common.{refl}
use Rattle.line_agenda.proofs.by_lines.ByLines.group.Goals as goal

pub returns-clause-action : goal.returns-clause-action
returns-clause-action g c = (c.args.events, refl, refl)
