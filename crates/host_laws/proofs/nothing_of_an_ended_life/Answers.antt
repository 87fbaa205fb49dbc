use Rattle.host_laws.proofs.Ended.{nothing_of_an_ended_life}
use Rattle.host_laws.proofs.nothing_of_an_ended_life.Goals as goal

pub returns : goal.returns
returns c = nothing_of_an_ended_life
