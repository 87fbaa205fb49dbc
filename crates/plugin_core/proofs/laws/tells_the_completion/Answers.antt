use Rattle.plugin_core.proofs.Whole.{tells_the_completion}
use Rattle.plugin_core.proofs.laws.tells_the_completion.Goals as goal

pub returns : goal.returns
returns c = tells_the_completion
