use Rattle.plugin_core.proofs.Readings.{one_of_steps}
use Rattle.plugin_core.proofs.laws.one_step.Goals as goal

pub returns : goal.returns
returns c = one_of_steps c.streams_read_one_way.ensures
