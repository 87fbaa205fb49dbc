use Rattle.std.proofs.Common.{◌≡◌, map, drop}
use Rattle.block_tree.specs.Tree.{items_from}
use Rattle.block_tree.specs.View.{piece_of}
use Rattle.check_report.specs.Errors.{has_error}
use Rattle.check_report.proofs.errors.+has_error.Given as goal

abbrev pub invariant-loop-item : goal.invariant-loop-item
invariant-loop-item l = has_error l.in_output (items_from (map piece_of (drop l.item-index l.item-items))) ≡ has_error l.in_output (items_from (map piece_of l.item-items))
