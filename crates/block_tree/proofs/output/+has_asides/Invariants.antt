use Rattle.std.proofs.Common.{◌≡◌, map, drop}
use Rattle.block_tree.specs.Tree.{items_from}
use Rattle.block_tree.specs.View.{piece_of}
use Rattle.block_tree.specs.inside.Asides.{has_aside}
use Rattle.block_tree.proofs.output.+has_asides.Given as goal

abbrev pub invariant-loop-item : goal.invariant-loop-item
invariant-loop-item l = has_aside (items_from (map piece_of (drop l.item-index l.item-items))) ≡ has_aside (items_from (map piece_of l.item-items))
