use Rattle.meta_format.proofs.Unique.{one_block}
use Rattle.meta_format.proofs.laws.one_block.Goals as goal

pub returns : goal.returns
returns c = one_block
