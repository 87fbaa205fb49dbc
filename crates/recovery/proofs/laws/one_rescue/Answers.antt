use Rattle.recovery.proofs.Rescues.{one_rescue}
use Rattle.recovery.proofs.laws.one_rescue.Goals as goal

pub returns : goal.returns
returns c = one_rescue c.one_front.ensures
