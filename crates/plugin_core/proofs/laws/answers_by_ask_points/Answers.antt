use Rattle.plugin_core.proofs.ByAskPoints.{answers_by_ask_points}
use Rattle.plugin_core.proofs.laws.answers_by_ask_points.Goals as goal

pub returns : goal.returns
returns c = answers_by_ask_points
