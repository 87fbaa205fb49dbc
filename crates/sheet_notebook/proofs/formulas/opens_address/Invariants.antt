use Rattle.std.proofs.Common.{◌≡◌, length}
use Rattle.sheet_notebook.specs.Formulas as formula
use Rattle.sheet_notebook.proofs.formulas.opens_address.Given as goal

abbrev pub invariant-loop-byte : goal.invariant-loop-byte
invariant-loop-byte l = formula.opens_address l.rest ≡ formula.opens_address l.bytes

abbrev pub decreases-loop-byte : goal.decreases-loop-byte
decreases-loop-byte l = length l.rest
