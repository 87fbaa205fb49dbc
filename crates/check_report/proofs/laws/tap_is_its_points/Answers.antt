use Rattle.check_report.proofs.TapLines.{tap_is_points}
use Rattle.check_report.proofs.laws.tap_is_its_points.Goals as goal

pub returns : goal.returns
returns c = tap_is_points
