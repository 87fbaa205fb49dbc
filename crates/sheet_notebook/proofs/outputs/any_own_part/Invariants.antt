use Rattle.std.proofs.Common.{◌≡◌, length, map}
use Rattle.std.specs.List.{list_any}
use Rattle.block_tree.specs.View.{piece_of}
use Rattle.sheet_notebook.specs.Notebook.{is_own_part}
use Rattle.sheet_notebook.specs.Parts.{parts_in}
use Rattle.sheet_notebook.proofs.outputs.any_own_part.Given as goal

abbrev pub invariant-loop-item : goal.invariant-loop-item
invariant-loop-item l = list_any is_own_part (parts_in l.in_output (map piece_of l.rest)) ≡ list_any is_own_part (parts_in l.in_output (map piece_of l.items))

abbrev pub decreases-loop-item : goal.decreases-loop-item
decreases-loop-item l = length l.rest
