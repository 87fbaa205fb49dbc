use Rattle.meta_format.proofs.Readable.{one_reading}
use Rattle.meta_format.proofs.laws.one_reading.Goals as goal

pub returns : goal.returns
returns c = one_reading
