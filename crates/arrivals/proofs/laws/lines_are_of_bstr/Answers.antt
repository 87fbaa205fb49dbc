use Rattle.arrivals.proofs.Agreeing.{lines-agree}
use Rattle.arrivals.proofs.laws.lines_are_of_bstr.Goals as goal

pub returns : goal.returns
returns c = lines-agree
