use Rattle.worksheet.proofs.WorksheetLaws.{ops_make_worksheets}
use Rattle.worksheet.proofs.laws.ops_make_worksheets.Goals as goal

pub returns : goal.returns
returns c = ops_make_worksheets
