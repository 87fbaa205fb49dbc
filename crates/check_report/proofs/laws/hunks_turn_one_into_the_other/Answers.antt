use Rattle.check_report.proofs.HunkLaw.{hunks_turn}
use Rattle.check_report.proofs.laws.hunks_turn_one_into_the_other.Goals as goal

pub returns : goal.returns
returns c = hunks_turn
