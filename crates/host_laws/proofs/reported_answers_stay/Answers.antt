use Rattle.host_laws.proofs.Reported.{reported_answers_stay}
use Rattle.host_laws.proofs.reported_answers_stay.Goals as goal

pub returns : goal.returns
returns c = reported_answers_stay
