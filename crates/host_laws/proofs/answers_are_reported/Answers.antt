use Rattle.host_laws.proofs.Saying.{answers_are_reported}
use Rattle.host_laws.proofs.answers_are_reported.Goals as goal

pub returns : goal.returns
returns c = answers_are_reported
