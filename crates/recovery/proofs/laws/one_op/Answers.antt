use Rattle.recovery.proofs.Unique.{one_op}
use Rattle.recovery.proofs.laws.one_op.Goals as goal

pub returns : goal.returns
returns c = one_op
