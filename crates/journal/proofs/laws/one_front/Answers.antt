use Rattle.journal.proofs.Unique.{one_front}
use Rattle.journal.proofs.laws.one_front.Goals as goal

pub returns : goal.returns
returns c = one_front
