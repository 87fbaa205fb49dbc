use Rattle.std.proofs.Common.{true, take, ap, sym, ◌∙◌, subst}
use Rattle.std.proofs.lemmas.Bool.{true≢false}
use Rattle.std.specs.Io.KnownBytes.{Appends}
use Rattle.block_tree.specs.View.{piece_text, piece_block, piece_of, tree_of}
use Rattle.sheet_export.specs.References.{html_text}
use Rattle.sheet_export.specs.Html.{block_html, piece_html}
use Rattle.sheet_export.proofs.Appending.{items_of_node, next_item, framed_done, bare_done, own_tag}
use Rattle.sheet_export.proofs.html.+write_shown.Goals.{in-Text+in_ok-write_text-in-Text, in-Block+in_ok-write_shown-in-Block, then-not-unmarked+in_ok-open_block, else-not-unmarked}
use Rattle.sheet_export.proofs.html.+write_shown.Goals as goal

pub loop-item-preserved : goal.loop-item-preserved
loop-item-preserved g t c =
    elim c.match-item.branch [
      | in-Text+in_ok-write_text-in-Text w ↦
          subst (λ o. Appends _ (g.W.Write.contents o) _) (sym w.out-is)
          (next_item _ _ _ _ _ _ _ _ c.loop-item-test.true c.item-item.is (ap (λ x. piece_html (own_tag c.args.node.now) (piece_of x)) w.in-Text.is ∙ ap (piece_html (own_tag c.args.node.now)) (piece_text w.in-Text.text) ∙ ap (html_text true) (sym w.as_slice-in-Text.ensures)) c.loop-item.invariant
          w.in_ok-write_text-in-Text.ensures)
      | in-Block+in_ok-write_shown-in-Block w ↦
          subst (λ o. Appends _ (g.W.Write.contents o) _) (sym w.out-is)
          (next_item _ _ _ _ _ _ _ _ c.loop-item-test.true c.item-item.is (ap (λ x. piece_html (own_tag c.args.node.now) (piece_of x)) w.in-Block.is ∙ ap (piece_html (own_tag c.args.node.now)) (piece_block w.in-Block.inner) ∙ ap (λ o. block_html o (tree_of w.in-Block.inner)) (sym c.is_output_tag-is_output.ensures)) c.loop-item.invariant
          w.in_ok-write_shown-in-Block.ensures)
    ]

pub returns-in_ok-close_block : goal.returns-in_ok-close_block
returns-in_ok-close_block g t c =
    elim c.if-not-unmarked.branch [
      | then-not-unmarked+in_ok-open_block w ↦
          framed_done c.args.in_output c.args.node.now _ _ _ _ _ _ _ (sym c.in_default.ensures) c.is_unmarked_tag-unmarked.ensures c.if-not-unmarked-2.true c.loop-item-test.false c.deref-item-items.ensures.value
          (subst (λ o. Appends _ (g.W.Write.contents o) _) (sym w.out-is) w.in_ok-open_block.ensures) c.loop-item.invariant c.in_ok-close_block.ensures
      | else-not-unmarked w ↦ absurd (true≢false (sym w.if-not-unmarked.false ∙ c.if-not-unmarked-2.true))
    ]

pub returns-else-not-unmarked-2 : goal.returns-else-not-unmarked-2
returns-else-not-unmarked-2 g t c =
    elim c.if-not-unmarked.branch [
      | then-not-unmarked+in_ok-open_block w ↦ absurd (true≢false (sym c.if-not-unmarked-2.false ∙ w.if-not-unmarked.true))
      | else-not-unmarked w ↦ bare_done c.args.in_output c.args.node.now _ _ _ (g.W.Write.contents c.args.out.now) (g.W.Write.contents c.loop-item.out) (sym c.in_default.ensures) c.is_unmarked_tag-unmarked.ensures c.if-not-unmarked-2.false c.loop-item-test.false c.deref-item-items.ensures.value
          (subst (λ o. Appends (g.W.Write.contents o) (g.W.Write.contents c.loop-item.out) (items_of_node c.args.node.now (take c.loop-item.item-index c.deref-item-items.result.now))) w.out-is c.loop-item.invariant)
    ]
