use Rattle.std.proofs.Common.{inl, inr, refl}
use Rattle.line_agenda.proofs.by_lines.ByLines.read_on.Goals as goal

pub returns-in-Ok : goal.returns-in-Ok
returns-in-Ok g c = (c.fill.new.self.held, g.R.Read.remaining c.fill.new.self.reader, refl, c.in-Ok.ensures.lines, inl refl)

pub returns-in-Err : goal.returns-in-Err
returns-in-Err g c = (c.fill.new.self.held, g.R.Read.remaining c.fill.new.self.reader, refl, c.in-Err.ensures.lines, inr refl)
