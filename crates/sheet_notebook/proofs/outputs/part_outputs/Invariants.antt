use Rattle.std.proofs.Common.{length, map}
use Rattle.block_tree.specs.View.{tree_of}
use Rattle.sheet_notebook.specs.Notebook.{part_output}
use Rattle.sheet_notebook.specs.Parts.{output_parts}
use Rattle.sheet_notebook.proofs.Parts.{Made, parts_ahead}
use Rattle.sheet_notebook.proofs.outputs.part_outputs.Given as goal

abbrev pub invariant-loop-item : goal.invariant-loop-item
invariant-loop-item l = Made l.outputs.items (parts_ahead l.in_output l.rest) (map part_output (output_parts (tree_of l.node)))

abbrev pub decreases-loop-item : goal.decreases-loop-item
decreases-loop-item l = length l.rest
