use Rattle.disk_model.proofs.Tied.{fresh_is_restarted}
use Rattle.disk_model.proofs.laws.fresh_is_restarted.Goals as goal

pub returns : goal.returns
returns c = fresh_is_restarted
