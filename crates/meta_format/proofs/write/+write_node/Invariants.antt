use Rattle.std.proofs.Common.{◌≡◌, ◌++◌, map, drop, take, length}
use Rattle.block_tree.specs.Tree.{items_from}
use Rattle.block_tree.specs.View.{piece_of}
use Rattle.meta_format.specs.Canonical.{canonical_items}
use Rattle.meta_format.proofs.write.+write_node.Given as goal

abbrev pub invariant-loop-item : goal.invariant-loop-item
invariant-loop-item l = record {
  rest : l.out.items ++ canonical_items (items_from (map piece_of (drop l.item-index l.item-items))) ≡ l.initial.out.items ++ canonical_items (items_from (map piece_of l.item-items));
  kept : take (length l.fn.out.items) l.out.items ≡ l.fn.out.items;
}
