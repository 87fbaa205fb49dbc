use Rattle.host_laws.proofs.Groups.{groups_are_turns}
use Rattle.host_laws.proofs.groups_are_turns.Goals as goal

pub returns : goal.returns
returns c = groups_are_turns
