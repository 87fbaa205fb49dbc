use Rattle.recovery.proofs.Rescues.{longest_rescue}
use Rattle.recovery.proofs.laws.longest_rescue.Goals as goal

pub returns : goal.returns
returns c = longest_rescue c.one_front.ensures
