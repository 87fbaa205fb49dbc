use Rattle.sheet_text.proofs.LineLaws.{inputs_back}
use Rattle.sheet_text.proofs.laws.inputs_come_back.Goals as goal

pub returns : goal.returns
returns c = inputs_back
