use Rattle.meta_format.proofs.EveryStream.{a_reading}
use Rattle.meta_format.proofs.laws.a_reading.Goals as goal

pub returns : goal.returns
returns c most fit s = let r = a_reading most fit s in (r.blocks, r.tail, r.stream)
