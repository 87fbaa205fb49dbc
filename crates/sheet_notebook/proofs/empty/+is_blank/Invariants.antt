use Rattle.std.proofs.Common.{◌≡◌, map, drop}
use Rattle.block_tree.specs.Tree.{items_from}
use Rattle.block_tree.specs.View.{piece_of}
use Rattle.sheet_notebook.specs.inside.Blank.{are_blank}
use Rattle.sheet_notebook.proofs.empty.+is_blank.Given as goal

abbrev pub invariant-loop-item : goal.invariant-loop-item
invariant-loop-item l = are_blank (items_from (map piece_of (drop l.item-index l.item-items))) ≡ are_blank (items_from (map piece_of l.item-items))
