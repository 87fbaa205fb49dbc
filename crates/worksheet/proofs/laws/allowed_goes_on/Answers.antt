use Rattle.worksheet.proofs.Existence.{allowed_goes_on}
use Rattle.worksheet.proofs.laws.allowed_goes_on.Goals as goal

pub returns : goal.returns
returns c = allowed_goes_on
