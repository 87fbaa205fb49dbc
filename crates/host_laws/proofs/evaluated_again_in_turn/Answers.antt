use Rattle.host_laws.proofs.Again.{evaluated_again_in_turn}
use Rattle.host_laws.proofs.evaluated_again_in_turn.Goals as goal

pub returns : goal.returns
returns c = evaluated_again_in_turn
