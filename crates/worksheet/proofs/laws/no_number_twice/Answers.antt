use Rattle.worksheet.proofs.WorksheetLaws.{no_number_twice}
use Rattle.worksheet.proofs.laws.no_number_twice.Goals as goal

pub returns : goal.returns
returns c = no_number_twice
