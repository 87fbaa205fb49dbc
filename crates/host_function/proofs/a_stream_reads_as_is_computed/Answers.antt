use Rattle.host_function.proofs.Function.{reading_is_a_function}
use Rattle.host_function.proofs.a_stream_reads_as_is_computed.Goals as goal

pub returns : goal.returns
returns c = reading_is_a_function c.streams_read_one_way.ensures
