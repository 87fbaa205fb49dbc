use Rattle.std.proofs.Common.{◌≡◌, map, drop, false}
use Rattle.block_tree.specs.Tree.{items_from}
use Rattle.block_tree.specs.View.{piece_of}
use Rattle.block_tree.specs.Shape.{longest_tag}
use Rattle.block_tree.specs.inside.Reading.{is_right}
use Rattle.block_tree.proofs.shape.+is_plain_node.Given as goal

abbrev pub invariant-loop-item : goal.invariant-loop-item
invariant-loop-item l = is_right longest_tag l.after_text (items_from (map piece_of (drop l.item-index l.item-items))) ≡ is_right longest_tag false (items_from (map piece_of l.item-items))
