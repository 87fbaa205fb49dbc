use Rattle.host_laws.proofs.OneThing.{outcomes_lead_to_one_world}
use Rattle.host_laws.proofs.outcomes_lead_to_one_world.Goals as goal

pub returns : goal.returns
returns c = outcomes_lead_to_one_world c.streams_read_one_way.ensures
