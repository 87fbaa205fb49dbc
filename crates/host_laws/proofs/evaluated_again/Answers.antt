use Rattle.host_laws.proofs.Going.{evaluated_again}
use Rattle.host_laws.proofs.evaluated_again.Goals as goal

pub returns : goal.returns
returns c = evaluated_again
