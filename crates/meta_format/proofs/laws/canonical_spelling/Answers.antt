use Rattle.meta_format.proofs.Written.{canonical_spells}
use Rattle.meta_format.proofs.laws.canonical_spelling.Goals as goal

pub returns : goal.returns
returns c = canonical_spells
