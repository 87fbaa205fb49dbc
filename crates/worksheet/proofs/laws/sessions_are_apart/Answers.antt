use Rattle.worksheet.proofs.ApartLaws.{sessions_are_apart}
use Rattle.worksheet.proofs.laws.sessions_are_apart.Goals as goal

pub returns : goal.returns
returns c = sessions_are_apart
