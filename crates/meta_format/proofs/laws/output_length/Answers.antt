use Rattle.meta_format.proofs.Lengths.{output_length}
use Rattle.meta_format.proofs.laws.output_length.Goals as goal

pub returns : goal.returns
returns c = output_length
