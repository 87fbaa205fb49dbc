use Rattle.sheet_export.proofs.ReadLines.{field_lines_read}
use Rattle.sheet_export.proofs.laws.field_lines_are_read.Goals as goal

pub returns : goal.returns
returns c = field_lines_read c.numbers_are_decimals.ensures
