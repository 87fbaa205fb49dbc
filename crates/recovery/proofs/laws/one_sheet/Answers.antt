use Rattle.recovery.proofs.Images.{one_sheet}
use Rattle.recovery.proofs.laws.one_sheet.Goals as goal

pub returns : goal.returns
returns c = one_sheet c.one_list.ensures
