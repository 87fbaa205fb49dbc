use Rattle.sheet_export.proofs.NoMarks.{no_marks}
use Rattle.sheet_export.proofs.laws.texts_have_no_marks.Goals as goal

pub returns : goal.returns
returns c = no_marks
