use Rattle.scheme_text.proofs.Telling.{reported_as_a_value}
use Rattle.scheme_text.proofs.laws.reported_as_a_value.Goals as goal

pub returns : goal.returns
returns c = reported_as_a_value
