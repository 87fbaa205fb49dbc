use Rattle.sheet_text.proofs.Decimals.{numbers_decimals}
use Rattle.sheet_text.proofs.laws.numbers_are_decimals.Goals as goal

pub returns : goal.returns
returns c = numbers_decimals
