use Rattle.std.proofs.Common.{◌≡◌, ◌++◌, ◌+◌, ◌≤◌, map, drop, length, vec_capacity, vec_len}
use Rattle.block_tree.specs.Tree.{items_from}
use Rattle.block_tree.specs.View.{piece_of}
use Rattle.meta_format.specs.Canonical.{canonical_items}
use Rattle.recovery.proofs.writing.+put_node.Given as goal

abbrev pub decreases-put_node : goal.decreases-put_node
decreases-put_node l = goal.size-put_node l

abbrev pub invariant-loop-item : goal.invariant-loop-item
invariant-loop-item l = record {
  code : l.out.items ++ canonical_items (items_from (map piece_of (drop l.item-index l.item-items))) ≡ l.initial.out.items ++ canonical_items (items_from (map piece_of l.item-items));
  size : vec_len l.out + length (canonical_items (items_from (map piece_of (drop l.item-index l.item-items)))) ≡ vec_len l.initial.out + length (canonical_items (items_from (map piece_of l.item-items)));
  capacity : vec_capacity l.fn.out ≤ vec_capacity l.out;
}
