use Rattle.std.proofs.Common.{sym}
use Rattle.field_agenda.specs.Looks.{no_field}
use Rattle.field_agenda.proofs.looking.look_for.Goals as goal

pub returns-in-Some : goal.returns-in-Some
returns-in-Some g c = no_field c.in-Some.id (sym c.in-Some.ensures)
