use Rattle.std.proofs.Common.{◌≡◌, take, flat_map}
use Rattle.block_tree.specs.View.{piece_of}
use Rattle.sheet_text.specs.Blocks.{piece_block_text}
use Rattle.sheet_export.specs.inside.Scan.{with_bytes}
use Rattle.sheet_export.proofs.fences.+with_node.Given as goal

abbrev pub invariant-loop-item : goal.invariant-loop-item
invariant-loop-item l = l.fence ≡ with_bytes l.initial.fence (flat_map (λ x. piece_block_text (piece_of x)) (take l.item-index l.item-items))
