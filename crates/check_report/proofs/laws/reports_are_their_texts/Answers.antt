use Rattle.check_report.proofs.Points.{are_their_texts}
use Rattle.check_report.proofs.laws.reports_are_their_texts.Goals as goal

pub returns : goal.returns
returns c = are_their_texts
