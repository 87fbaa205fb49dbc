use Rattle.journal.proofs.Unique.{one_list}
use Rattle.journal.proofs.laws.one_list.Goals as goal

pub returns : goal.returns
returns c = one_list
