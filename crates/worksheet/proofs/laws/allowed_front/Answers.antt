use Rattle.worksheet.proofs.ApartLaws.{allowed_front}
use Rattle.worksheet.proofs.laws.allowed_front.Goals as goal

pub returns : goal.returns
returns c = allowed_front
