use Rattle.recovery.proofs.Refusals.{sheet_image_opens}
use Rattle.recovery.proofs.laws.sheet_image_opens.Goals as goal

pub returns : goal.returns
returns c = sheet_image_opens c.one_list.ensures c.standing_opens.ensures
