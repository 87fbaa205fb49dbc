use Rattle.plugin_core.proofs.Readings.{one_of_streams}
use Rattle.plugin_core.proofs.laws.streams_read_one_way.Goals as goal

pub returns : goal.returns
returns c = one_of_streams c.one_reading.ensures c.one_fault.ensures
