use Rattle.meta_format.proofs.GoesOn.{goes_on}
use Rattle.meta_format.proofs.laws.blocks_stay.Goals as goal

pub returns : goal.returns
returns c = goes_on
