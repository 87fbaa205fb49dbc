use Rattle.host_laws.proofs.Stepwise.{steps_are_turns}
use Rattle.host_laws.proofs.steps_are_turns.Goals as goal

pub returns : goal.returns
returns c = steps_are_turns
