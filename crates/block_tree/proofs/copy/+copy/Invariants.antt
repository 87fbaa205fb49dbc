use Rattle.std.proofs.Common.{◌≡◌, map, take}
use Rattle.block_tree.specs.View.{piece_of}
use Rattle.block_tree.proofs.copy.+copy.Given as goal

abbrev pub invariant-copy_node-loop-item : goal.invariant-copy_node-loop-item
invariant-copy_node-loop-item l = map piece_of l.items.items ≡ map piece_of (take l.item-index l.item-items)
