use Rattle.worksheet.proofs.Existence.{has_what_exists}
use Rattle.worksheet.proofs.laws.a_worksheet_has_what_exists.Goals as goal

pub returns : goal.returns
returns c = has_what_exists
