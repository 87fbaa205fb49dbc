use Rattle.std.proofs.Common.{◌≡◌, take, flat_map}
use Rattle.std.specs.List.{last_or}
use Rattle.block_tree.specs.View.{piece_of}
use Rattle.sheet_text.specs.Blocks.{piece_block_text}
use Rattle.sheet_text.proofs.ends.+shown_end.Given as goal

abbrev pub invariant-loop-item : goal.invariant-loop-item
invariant-loop-item l = l.end ≡ last_or l.initial.end (flat_map (λ x. piece_block_text (piece_of x)) (take l.item-index l.item-items))
