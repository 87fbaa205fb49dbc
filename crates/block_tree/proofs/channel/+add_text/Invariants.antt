use Rattle.std.proofs.Common.{◌≡◌, map, drop, ◌++◌}
use Rattle.block_tree.specs.Tree.{items_from}
use Rattle.block_tree.specs.View.{piece_of}
use Rattle.block_tree.specs.Output.{text_of}
use Rattle.block_tree.proofs.channel.+add_text.Given as goal

abbrev pub invariant-loop-item : goal.invariant-loop-item
invariant-loop-item l = l.into.items ++ text_of (items_from (map piece_of (drop l.item-index l.item-items))) ≡ l.initial.into.items ++ text_of (items_from (map piece_of l.item-items))
