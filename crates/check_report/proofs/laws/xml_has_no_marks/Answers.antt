use Rattle.check_report.proofs.NoMarks.{no_marks}
use Rattle.check_report.proofs.laws.xml_has_no_marks.Goals as goal

pub returns : goal.returns
returns c = no_marks
