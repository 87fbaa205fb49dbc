use Rattle.meta_format.proofs.Unique.{no_front}
use Rattle.meta_format.proofs.laws.no_front.Goals as goal

pub returns : goal.returns
returns c = no_front
