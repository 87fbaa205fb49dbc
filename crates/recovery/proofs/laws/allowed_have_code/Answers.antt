use Rattle.recovery.proofs.Allowed.{allowed_have_code}
use Rattle.recovery.proofs.laws.allowed_have_code.Goals as goal

pub returns : goal.returns
returns c = allowed_have_code
