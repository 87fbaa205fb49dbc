use Rattle.sheet_export.proofs.Replays.{scripts_make}
use Rattle.sheet_export.proofs.laws.scripts_make_them_again.Goals as goal

pub returns : goal.returns
returns c = scripts_make c.rewrite_makes_the_same.ensures
