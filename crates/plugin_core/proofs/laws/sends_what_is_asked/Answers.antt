use Rattle.plugin_core.proofs.Sends.{sends_what_is_asked}
use Rattle.plugin_core.proofs.laws.sends_what_is_asked.Goals as goal

pub returns : goal.returns
returns c = sends_what_is_asked
