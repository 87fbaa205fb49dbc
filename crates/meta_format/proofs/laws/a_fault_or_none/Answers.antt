use Rattle.meta_format.proofs.FaultOrNone.{fault_or_none}
use Rattle.meta_format.proofs.laws.a_fault_or_none.Goals as goal

pub returns : goal.returns
returns c = fault_or_none
