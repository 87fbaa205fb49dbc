use Rattle.sheet_export.proofs.ScriptsAlike.{scripts_run_alike}
use Rattle.sheet_export.proofs.laws.scripts_run_alike.Goals as goal

pub returns : goal.returns
returns c = scripts_run_alike c.scripts_make_them_again.ensures c.scripts_say_their_ops.ensures
