use Rattle.recovery.proofs.Refusals.{one_refusal}
use Rattle.recovery.proofs.laws.one_refusal.Goals as goal

pub returns : goal.returns
returns c = one_refusal c.one_list.ensures c.one_damage.ensures c.no_damage.ensures
