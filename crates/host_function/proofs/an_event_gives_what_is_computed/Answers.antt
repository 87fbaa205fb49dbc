use Rattle.host_function.proofs.Function.{gives_is_a_function}
use Rattle.host_function.proofs.an_event_gives_what_is_computed.Goals as goal

pub returns : goal.returns
returns c = gives_is_a_function c.streams_read_one_way.ensures
