use Rattle.scheme_text.proofs.Telling.{one_completion}
use Rattle.scheme_text.proofs.laws.one_completion.Goals as goal

pub returns : goal.returns
returns c = one_completion
