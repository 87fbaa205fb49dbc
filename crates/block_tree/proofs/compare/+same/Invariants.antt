use Rattle.std.proofs.Common.{◌≡◌, drop, map}
use Rattle.block_tree.specs.Tree.{items_from}
use Rattle.block_tree.specs.Same.{same_items}
use Rattle.block_tree.specs.View.{piece_of}
use Rattle.block_tree.proofs.compare.+same.Given as goal

abbrev pub decreases-same_item : goal.decreases-same_item
decreases-same_item l = goal.size-same_item l

abbrev pub decreases-same_node : goal.decreases-same_node
decreases-same_node l = goal.size-same_node l

abbrev pub invariant-same_node-loop-i : goal.invariant-same_node-loop-i
invariant-same_node-loop-i l = same_items (items_from (map piece_of (drop l.i l.a.items.items))) (items_from (map piece_of (drop l.i l.b.items.items)))
    ≡ same_items (items_from (map piece_of l.a.items.items)) (items_from (map piece_of l.b.items.items))
