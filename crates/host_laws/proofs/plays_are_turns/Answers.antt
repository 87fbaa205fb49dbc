use Rattle.host_laws.proofs.Going.{plays_are_turns}
use Rattle.host_laws.proofs.plays_are_turns.Goals as goal

pub returns : goal.returns
returns c = plays_are_turns
