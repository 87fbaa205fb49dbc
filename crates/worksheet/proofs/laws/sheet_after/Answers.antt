use Rattle.worksheet.proofs.ApartLaws.{sheet_after}
use Rattle.worksheet.proofs.laws.sheet_after.Goals as goal

pub returns : goal.returns
returns c = sheet_after
