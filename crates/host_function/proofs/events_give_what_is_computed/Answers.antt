use Rattle.host_function.proofs.Function.{runs_is_a_function}
use Rattle.host_function.proofs.events_give_what_is_computed.Goals as goal

pub returns : goal.returns
returns c = runs_is_a_function c.streams_read_one_way.ensures
