use Rattle.sheet_export.proofs.FencesHold.{fences_hold}
use Rattle.sheet_export.proofs.laws.no_text_closes_its_fence.Goals as goal

pub returns : goal.returns
returns c = fences_hold
