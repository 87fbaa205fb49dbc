use Rattle.std.proofs.Common.{◌≡◌, map, take}
use Rattle.block_tree.specs.Tree.{items_from}
use Rattle.block_tree.specs.View.{piece_of}
use Rattle.block_tree.specs.Output.{output_items}
use Rattle.block_tree.proofs.output.+without_asides.Given as goal

abbrev pub invariant-loop-item : goal.invariant-loop-item
invariant-loop-item l = items_from (map piece_of l.items.items) ≡ output_items (items_from (map piece_of (take l.item-index l.item-items)))
