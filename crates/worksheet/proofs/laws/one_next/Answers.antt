use Rattle.worksheet.proofs.NextLaws.{same_next}
use Rattle.worksheet.proofs.laws.one_next.Goals as goal

pub returns : goal.returns
returns c = same_next
