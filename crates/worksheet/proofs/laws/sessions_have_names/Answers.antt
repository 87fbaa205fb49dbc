use Rattle.worksheet.proofs.NextLaws.{sessions_have_names}
use Rattle.worksheet.proofs.laws.sessions_have_names.Goals as goal

pub returns : goal.returns
returns c = sessions_have_names
