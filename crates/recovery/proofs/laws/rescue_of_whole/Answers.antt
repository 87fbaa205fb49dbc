use Rattle.recovery.proofs.Rescues.{rescue_of_whole}
use Rattle.recovery.proofs.laws.rescue_of_whole.Goals as goal

pub returns : goal.returns
returns c = rescue_of_whole c.one_front.ensures
