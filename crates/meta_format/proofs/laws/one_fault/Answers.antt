use Rattle.meta_format.proofs.Readable.{one_fault}
use Rattle.meta_format.proofs.laws.one_fault.Goals as goal

pub returns : goal.returns
returns c = one_fault
