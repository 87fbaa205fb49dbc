use Rattle.std.proofs.Common.{rules, false, ◌∷◌, [], flat_map, ap, sym, ◌∙◌, subst}
use Rattle.std.specs.Io.KnownBytes.{Appends}
use Rattle.block_tree.specs.View.{piece_text, piece_block, piece_of}
use Rattle.sheet_text.specs.Escape.{printed_byte}
use Rattle.sheet_text.specs.Blocks.{piece_tree_text}
use Rattle.sheet_text.proofs.Appending.{next_item, tree_done}
use Rattle.sheet_text.proofs.blocks.+write_tree.Goals.{in-Text+in_ok-write_line-in-Text, in-Block+in_ok-write_tree-in-Block}
use Rattle.sheet_text.proofs.blocks.+write_tree.Goals as goal

pub loop-item-preserved : goal.loop-item-preserved
loop-item-preserved g t c =
    elim c.match-item.branch [
      | in-Text+in_ok-write_line-in-Text w ↦
          subst (λ o. Appends _ (g.W.Write.contents o) _) (sym w.out-is)
          (next_item _ _ _ _ _ _ _ _ c.loop-item-test.true c.item-item.is (ap (λ x. piece_tree_text (piece_of x)) w.in-Text.is ∙ ap piece_tree_text (piece_text w.in-Text.text) ∙ ap (flat_map (printed_byte false)) (sym w.as_slice.ensures)) c.loop-item.invariant
          w.in_ok-write_line-in-Text.ensures)
      | in-Block+in_ok-write_tree-in-Block w ↦
          subst (λ o. Appends _ (g.W.Write.contents o) _) (sym w.out-is)
          (next_item _ _ _ _ _ _ _ _ c.loop-item-test.true c.item-item.is (ap (λ x. piece_tree_text (piece_of x)) w.in-Block.is ∙ ap piece_tree_text (piece_block w.in-Block.inner)) c.loop-item.invariant
          w.in_ok-write_tree-in-Block.ensures)
    ]

pub returns : goal.returns
returns g t c =
    let last : Appends (g.W.Write.contents c.loop-item.out) (g.W.Write.contents c.write_all.new.self) (125 ∷ []) = search rules in
    tree_done c.args.node.now _ _ _ _ _ _ c.loop-item-test.false c.deref-item-items.ensures.value c.in_ok-open_tag.ensures c.loop-item.invariant last
