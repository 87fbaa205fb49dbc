use Rattle.std.proofs.Common.{◌≡◌, ◌≤◌, ◌+◌, false, length}
use Rattle.sheet_notebook.specs.Formulas as formula
use Rattle.sheet_notebook.proofs.formulas.closes.Given as goal

abbrev pub invariant-loop-byte : goal.invariant-loop-byte
invariant-loop-byte l = (formula.closes l.escaped l.depth l.rest ≡ formula.closes false 0 l.bytes) × (l.depth + length l.rest ≤ length l.bytes)

abbrev pub decreases-loop-byte : goal.decreases-loop-byte
decreases-loop-byte l = length l.rest
