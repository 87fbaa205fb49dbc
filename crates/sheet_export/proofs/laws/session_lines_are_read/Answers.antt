use Rattle.sheet_export.proofs.ReadLines.{session_lines}
use Rattle.sheet_export.proofs.laws.session_lines_are_read.Goals as goal

pub returns : goal.returns
returns c = session_lines
