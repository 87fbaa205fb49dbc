use Rattle.host_laws.proofs.Numbers.{numbers_are_given_once}
use Rattle.host_laws.proofs.numbers_are_given_once.Goals as goal

pub returns : goal.returns
returns c = numbers_are_given_once
