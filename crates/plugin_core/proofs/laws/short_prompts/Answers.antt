use Rattle.plugin_core.proofs.Prompts.{short_prompts}
use Rattle.plugin_core.proofs.laws.short_prompts.Goals as goal

pub returns : goal.returns
returns c = short_prompts
