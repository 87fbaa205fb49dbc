use Rattle.host_laws.proofs.Groups.{groups_up_to_are_turns}
use Rattle.host_laws.proofs.groups_up_to_are_turns.Goals as goal

pub returns : goal.returns
returns c = groups_up_to_are_turns
