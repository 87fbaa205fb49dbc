use Rattle.std.proofs.Common.{◌≡◌, length}
use Rattle.sheet_notebook.specs.Formulas as formula
use Rattle.sheet_notebook.proofs.formulas.has_markup.Given as goal

abbrev pub invariant-loop-byte : goal.invariant-loop-byte
invariant-loop-byte l = formula.has_markup l.rest ≡ formula.has_markup l.bytes

abbrev pub decreases-loop-byte : goal.decreases-loop-byte
decreases-loop-byte l = length l.rest
