use Rattle.std.proofs.Common.{length}
use Rattle.sheet_notebook.proofs.Parts.{Decides}
use Rattle.sheet_notebook.proofs.outputs.has_parts.Given as goal

abbrev pub invariant-loop-item : goal.invariant-loop-item
invariant-loop-item l = Decides l.node l.in_output l.rest

abbrev pub decreases-loop-item : goal.decreases-loop-item
decreases-loop-item l = length l.rest
