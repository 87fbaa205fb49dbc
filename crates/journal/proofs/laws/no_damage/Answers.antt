use Rattle.journal.proofs.Unique.{undamaged}
use Rattle.journal.proofs.laws.no_damage.Goals as goal

pub returns : goal.returns
returns c = undamaged
