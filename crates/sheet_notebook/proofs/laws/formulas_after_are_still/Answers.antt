use Rattle.sheet_notebook.proofs.Still.{are_still_after}
use Rattle.sheet_notebook.proofs.laws.formulas_after_are_still.Goals as goal

pub returns : goal.returns
returns c = are_still_after
