use Rattle.arrivals.proofs.Filling.{first-lines}
use Rattle.arrivals.proofs.lines.InputLines.new.Goals as goal

pub returns-clause-lines : goal.returns-clause-lines
returns-clause-lines g c = first-lines c.in_ok-held.held (g.R.Read.remaining c.args.reader) c.in_ok-held.ensures
