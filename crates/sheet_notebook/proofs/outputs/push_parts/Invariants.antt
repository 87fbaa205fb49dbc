use Rattle.std.proofs.Common.{◌++◌, length, map}
use Rattle.block_tree.specs.View.{piece_of}
use Rattle.serde_json.specs.View.{view}
use Rattle.sheet_notebook.specs.Notebook.{part_output}
use Rattle.sheet_notebook.specs.Parts.{parts_in}
use Rattle.sheet_notebook.proofs.Parts.{Made}
use Rattle.sheet_notebook.proofs.outputs.push_parts.Given as goal

abbrev pub invariant-loop-item : goal.invariant-loop-item
invariant-loop-item l = Made l.outputs.items (parts_in l.in_output (map piece_of l.rest)) (map view l.initial.outputs.items ++ map part_output (parts_in l.in_output (map piece_of l.items)))

abbrev pub decreases-loop-item : goal.decreases-loop-item
decreases-loop-item l = length l.rest
