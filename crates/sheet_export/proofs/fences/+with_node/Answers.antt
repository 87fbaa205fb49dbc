use Rattle.std.proofs.Common.{true, ap, sym, ◌∙◌, take, flat_map}
use Rattle.std.proofs.lemmas.Bool.{true≢false}
use Rattle.block_tree.specs.View.{piece_text, piece_block, piece_of}
use Rattle.sheet_text.specs.Blocks.{piece_block_text}
use Rattle.sheet_text.specs.Escape.{on_lines}
use Rattle.sheet_export.specs.inside.Scan.{with_bytes}
use Rattle.sheet_export.proofs.Scans.{bare_fence, framed_fence, next_fence, text_scan}
use Rattle.sheet_export.proofs.fences.+with_node.Goals.{in-Text+in_ok-fence-in-Text, in-Block+in_ok-fence-in-Block, then-not-bare+in_ok-fence, else-not-bare}
use Rattle.sheet_export.proofs.fences.+with_node.Goals as goal

pub loop-item-preserved : goal.loop-item-preserved
loop-item-preserved t c =
    elim c.match-item.branch [
      | in-Text+in_ok-fence-in-Text w ↦
          next_fence (λ x. piece_block_text (piece_of x)) _ _ _ _ _ _ _ c.loop-item-test.true c.item-item.is
          (ap (λ x. piece_block_text (piece_of x)) w.in-Text.is ∙ ap piece_block_text (piece_text w.in-Text.text) ∙ ap on_lines (sym w.as_slice.ensures)) c.loop-item.invariant
          (w.fence-is ∙ w.in_ok-fence-in-Text.ensures ∙ sym (text_scan true c.loop-item.fence w.as_slice.result.now))
      | in-Block+in_ok-fence-in-Block w ↦
          next_fence (λ x. piece_block_text (piece_of x)) _ _ _ _ _ _ _ c.loop-item-test.true c.item-item.is
          (ap (λ x. piece_block_text (piece_of x)) w.in-Block.is ∙ ap piece_block_text (piece_block w.in-Block.inner)) c.loop-item.invariant (w.fence-is ∙ w.in_ok-fence-in-Block.ensures)
    ]

pub returns-in_ok-fence-2 : goal.returns-in_ok-fence-2
returns-in_ok-fence-2 t c =
    elim c.if-not-bare.branch [
      | then-not-bare+in_ok-fence w ↦
          framed_fence c.args.node.now _ _ _ _ _ _ _ c.is_bare_tag-bare.ensures c.if-not-bare-2.true c.loop-item-test.false c.deref-item-items.ensures.value (w.fence-is ∙ w.in_ok-fence.ensures) c.loop-item.invariant c.in_ok-fence-2.ensures
      | else-not-bare w ↦ absurd (true≢false (sym w.if-not-bare.false ∙ c.if-not-bare-2.true))
    ]

pub returns-else-not-bare-2 : goal.returns-else-not-bare-2
returns-else-not-bare-2 t c =
    elim c.if-not-bare.branch [
      | then-not-bare+in_ok-fence w ↦ absurd (true≢false (sym c.if-not-bare-2.false ∙ w.if-not-bare.true))
      | else-not-bare w ↦ bare_fence c.args.node.now _ _ _ _ _ c.is_bare_tag-bare.ensures c.if-not-bare-2.false c.loop-item-test.false c.deref-item-items.ensures.value
          (c.loop-item.invariant ∙ ap (λ f. with_bytes f (flat_map (λ x. piece_block_text (piece_of x)) (take c.loop-item.item-index c.deref-item-items.result.now))) w.fence-is)
    ]
