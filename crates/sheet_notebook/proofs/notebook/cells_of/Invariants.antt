use Rattle.std.proofs.Common.{length}
use Rattle.sheet_notebook.proofs.Cells.{Made}
use Rattle.sheet_notebook.proofs.notebook.cells_of.Given as goal

abbrev pub invariant-loop-field : goal.invariant-loop-field
invariant-loop-field l = Made l.cells.items l.fields l.sheet.contents.fields

abbrev pub decreases-loop-field : goal.decreases-loop-field
decreases-loop-field l = length l.fields
