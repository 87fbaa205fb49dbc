use Rattle.std.proofs.Common.{true, flat_map, ap, sym, ◌∙◌}
use Rattle.block_tree.specs.View.{piece_of, piece_text, piece_block}
use Rattle.sheet_text.specs.Escape.{printed_byte}
use Rattle.sheet_text.specs.Blocks.{piece_block_text}
use Rattle.sheet_text.proofs.LastBytes.{framed_ends, bare_ends, next_end}
use Rattle.sheet_text.proofs.ends.+shown_end.Goals.{in-Text, in-Block}
use Rattle.sheet_text.proofs.ends.+shown_end.Goals as goal

pub returns-then-not-is_bare_tag : goal.returns-then-not-is_bare_tag
returns-then-not-is_bare_tag t c = framed_ends c.args.node.now c.args.before c.is_bare_tag.result c.is_bare_tag.ensures c.if-not-is_bare_tag.true

pub loop-item-preserved : goal.loop-item-preserved
loop-item-preserved t c =
    elim c.match-item.branch [
      | in-Text w ↦
          next_end (λ x. piece_block_text (piece_of x)) _ _ _ _ _ _ _ c.loop-item-test.true c.item-item.is (ap (λ x. piece_block_text (piece_of x)) w.in-Text.is ∙ ap piece_block_text (piece_text w.in-Text.text) ∙ ap (flat_map (printed_byte true)) (sym w.as_slice.ensures))
          c.loop-item.invariant (w.end-is ∙ w.text_end-end.ensures)
      | in-Block w ↦
          next_end (λ x. piece_block_text (piece_of x)) _ _ _ _ _ _ _ c.loop-item-test.true c.item-item.is (ap (λ x. piece_block_text (piece_of x)) w.in-Block.is ∙ ap piece_block_text (piece_block w.in-Block.inner))
          c.loop-item.invariant (w.end-is ∙ w.shown_end-end.ensures)
    ]

pub returns : goal.returns
returns t c = bare_ends c.args.node.now _ _ _ _ c.is_bare_tag.result c.is_bare_tag.ensures c.if-not-is_bare_tag.false c.loop-item-test.false c.deref-item-items.ensures.value c.loop-item.invariant
