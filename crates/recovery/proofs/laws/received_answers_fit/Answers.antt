use Rattle.recovery.proofs.Sizes.{answers_fit}
use Rattle.recovery.proofs.laws.received_answers_fit.Goals as goal

pub returns : goal.returns
returns c = answers_fit c.canonical_growth.ensures c.output_length.ensures
