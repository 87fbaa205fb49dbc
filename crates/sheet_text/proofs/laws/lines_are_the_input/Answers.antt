use Rattle.sheet_text.proofs.LineLaws.{lines_are_input}
use Rattle.sheet_text.proofs.laws.lines_are_the_input.Goals as goal

pub returns : goal.returns
returns c = lines_are_input
