use Rattle.sheet_export.proofs.ScriptRuns.{scripts_run}
use Rattle.sheet_export.proofs.laws.scripts_run.Goals as goal

pub returns : goal.returns
returns c = scripts_run c.scripts_make_them_again.ensures c.scripts_say_their_ops.ensures
