use Rattle.host_function.proofs.Function.{memory_is_the_only_choice}
use Rattle.host_function.proofs.memory_is_the_only_choice.Goals as goal

pub returns : goal.returns
returns c = memory_is_the_only_choice c.streams_read_one_way.ensures
