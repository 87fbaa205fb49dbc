use Rattle.std.proofs.Common.{true, take, flat_map, ap, sym, ◌∙◌, subst}
use Rattle.std.proofs.lemmas.Bool.{true≢false}
use Rattle.std.specs.Io.KnownBytes.{Appends}
use Rattle.block_tree.specs.View.{piece_text, piece_block, piece_of}
use Rattle.sheet_text.specs.Escape.{printed_byte}
use Rattle.check_report.specs.Brief.{piece_brief}
use Rattle.check_report.proofs.Brevity.{items_of_node, next_item, framed_done, bare_done}
use Rattle.check_report.proofs.brief.+write_brief.Goals.{in-Text+in_ok-write_lines-in-Text, in-Block+in_ok-write_brief-in-Block, then-not-bare+in_ok-open_tag, else-not-bare}
use Rattle.check_report.proofs.brief.+write_brief.Goals as goal

pub loop-item-preserved : goal.loop-item-preserved
loop-item-preserved g t c =
    elim c.match-item.branch [
      | in-Text+in_ok-write_lines-in-Text w ↦
          subst (λ o. Appends _ (g.W.Write.contents o) _) (sym w.out-is)
          (next_item _ _ _ _ _ _ _ _ c.loop-item-test.true c.item-item.is (ap (λ x. piece_brief (piece_of x)) w.in-Text.is ∙ ap piece_brief (piece_text w.in-Text.text) ∙ ap (flat_map (printed_byte true)) (sym w.as_slice.ensures)) c.loop-item.invariant
          w.in_ok-write_lines-in-Text.ensures)
      | in-Block+in_ok-write_brief-in-Block w ↦
          subst (λ o. Appends _ (g.W.Write.contents o) _) (sym w.out-is)
          (next_item _ _ _ _ _ _ _ _ c.loop-item-test.true c.item-item.is (ap (λ x. piece_brief (piece_of x)) w.in-Block.is ∙ ap piece_brief (piece_block w.in-Block.inner)) c.loop-item.invariant
          w.in_ok-write_brief-in-Block.ensures)
    ]

pub returns-in_ok-write_bytes : goal.returns-in_ok-write_bytes
returns-in_ok-write_bytes g t c =
    elim c.if-not-bare.branch [
      | then-not-bare+in_ok-open_tag w ↦
          framed_done c.args.node.now _ _ _ _ _ _ _ (sym c.in_default.ensures) c.is_bare_tag-bare.ensures c.if-not-bare-2.true c.loop-item-test.false c.deref-item-items.ensures.value
          (subst (λ o. Appends _ (g.W.Write.contents o) _) (sym w.out-is) w.in_ok-open_tag.ensures) c.loop-item.invariant c.in_ok-write_bytes.ensures
      | else-not-bare w ↦ absurd (true≢false (sym w.if-not-bare.false ∙ c.if-not-bare-2.true))
    ]

pub returns-else-not-bare-2 : goal.returns-else-not-bare-2
returns-else-not-bare-2 g t c =
    elim c.if-not-bare.branch [
      | then-not-bare+in_ok-open_tag w ↦ absurd (true≢false (sym c.if-not-bare-2.false ∙ w.if-not-bare.true))
      | else-not-bare w ↦ bare_done c.args.node.now _ _ _ (g.W.Write.contents c.args.out.now) (g.W.Write.contents c.loop-item.out) (sym c.in_default.ensures) c.is_bare_tag-bare.ensures c.if-not-bare-2.false c.loop-item-test.false c.deref-item-items.ensures.value
          (subst (λ o. Appends (g.W.Write.contents o) (g.W.Write.contents c.loop-item.out) (items_of_node (take c.loop-item.item-index c.deref-item-items.result.now))) w.out-is c.loop-item.invariant)
    ]
