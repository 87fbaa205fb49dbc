use Rattle.std.proofs.Common.{◌≡◌, ◌-◌, nat_le, map, drop}
use Rattle.block_tree.specs.Tree.{items_from}
use Rattle.block_tree.specs.View.{piece_of}
use Rattle.block_tree.specs.Shape.{levels}
use Rattle.block_tree.proofs.shape.+fits_in.Given as goal

abbrev pub invariant-loop-item : goal.invariant-loop-item
invariant-loop-item l = nat_le (levels (items_from (map piece_of (drop l.item-index l.item-items)))) (l.most - 1) ≡ nat_le (levels (items_from (map piece_of l.item-items))) (l.most - 1)
