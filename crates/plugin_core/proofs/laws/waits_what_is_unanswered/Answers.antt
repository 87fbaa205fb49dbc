use Rattle.plugin_core.proofs.Waits.{waits_what_is_unanswered}
use Rattle.plugin_core.proofs.laws.waits_what_is_unanswered.Goals as goal

pub returns : goal.returns
returns c = waits_what_is_unanswered
