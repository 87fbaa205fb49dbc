use Rattle.sheet_notebook.proofs.Still.{are_still}
use Rattle.sheet_notebook.proofs.laws.formulas_are_still.Goals as goal

pub returns : goal.returns
returns c = are_still
