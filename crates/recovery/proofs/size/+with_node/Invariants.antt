use Rattle.std.proofs.Common.{◌≡◌, ◌+◌, ◌≤◌, min, length, drop, map}
use Rattle.block_tree.specs.Tree.{items_from}
use Rattle.block_tree.specs.View.{piece_of}
use Rattle.meta_format.specs.Canonical.{canonical_items}
use Rattle.recovery.specs.Code.{longest_reported}
use Rattle.recovery.proofs.size.+with_node.Given as goal

abbrev pub decreases-with_node : goal.decreases-with_node
decreases-with_node l = goal.size-with_node l

abbrev pub invariant-loop-item : goal.invariant-loop-item
invariant-loop-item l = record {
  capped : l.len ≤ longest_reported;
  rest : min (l.len + length (canonical_items (items_from (map piece_of (drop l.item-index l.item-items))))) longest_reported
      ≡ min (l.initial.len + length (canonical_items (items_from (map piece_of l.item-items)))) longest_reported;
}
