use Rattle.recovery.proofs.Lengths.{rewrites_are_short}
use Rattle.recovery.proofs.laws.rewrites_are_short.Goals as goal

pub returns : goal.returns
returns c = rewrites_are_short
