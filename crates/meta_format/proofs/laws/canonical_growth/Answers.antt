use Rattle.meta_format.proofs.Lengths.{grown}
use Rattle.meta_format.proofs.laws.canonical_growth.Goals as goal

pub returns : goal.returns
returns c = grown
