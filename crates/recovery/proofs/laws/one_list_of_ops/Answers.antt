use Rattle.recovery.proofs.Images.{one_list_of_ops}
use Rattle.recovery.proofs.laws.one_list_of_ops.Goals as goal

pub returns : goal.returns
returns c = one_list_of_ops c.one_list.ensures
