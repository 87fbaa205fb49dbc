use Rattle.worksheet.proofs.WorksheetLaws.{numbers_rise}
use Rattle.worksheet.proofs.laws.numbers_rise.Goals as goal

pub returns : goal.returns
returns c = numbers_rise
