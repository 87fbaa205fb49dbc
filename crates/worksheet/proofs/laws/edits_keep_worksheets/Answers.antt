use Rattle.worksheet.proofs.WorksheetLaws.{edits_keep_worksheets}
use Rattle.worksheet.proofs.laws.edits_keep_worksheets.Goals as goal

pub returns : goal.returns
returns c = edits_keep_worksheets
