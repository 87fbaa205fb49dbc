use Rattle.journal.proofs.Unique.{damaged_once}
use Rattle.journal.proofs.laws.one_damage.Goals as goal

pub returns : goal.returns
returns c = damaged_once
