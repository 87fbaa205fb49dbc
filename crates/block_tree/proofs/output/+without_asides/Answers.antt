use Rattle.std.proofs.Common.{refl, ap, sym, ◌∙◌, map}
use Rattle.std.proofs.lemmas.List.{take_all}
use Rattle.block_tree.specs.Tree.{items_from}
use Rattle.block_tree.specs.View.{piece_of}
use Rattle.block_tree.specs.Output.{output_items}
use Rattle.block_tree.specs.inside.Growing.{text_after}
use Rattle.block_tree.proofs.Outputs.{next_text, next_block, next_aside, made_node}
use Rattle.block_tree.proofs.output.+without_asides.Goals.{in-Text+in_ok-push_text-in-Text, in-Block+then-not-is_aside_tag+in_ok-kept-in-Block+in_ok-push-in-Block, in-Block+else-not-is_aside_tag}
use Rattle.block_tree.proofs.output.+without_asides.Goals as goal

pub loop-item-preserved : goal.loop-item-preserved
loop-item-preserved t c =
    elim c.match-item.branch [
      | in-Text+in_ok-push_text-in-Text w ↦
          ap (λ v. items_from (map piece_of v.items)) w.items-is ∙ w.in_ok-push_text-in-Text.ensures ∙ ap (text_after _) w.as_slice.ensures
          ∙ next_text _ _ _ _ _ c.loop-item-test.true c.item-item.is w.in-Text.is c.loop-item.invariant
      | in-Block+then-not-is_aside_tag+in_ok-kept-in-Block+in_ok-push-in-Block w ↦
          ap (λ v. items_from (map piece_of v.items)) w.items-is ∙ ap (λ v. items_from (map piece_of v)) w.in_ok-push-in-Block.ensures.items
          ∙ next_block _ _ _ w.in-Block.inner w.in_ok-kept-in-Block.kept _ c.loop-item-test.true c.item-item.is w.in-Block.is (sym w.is_aside_tag.ensures ∙ w.if-not-is_aside_tag.true) w.in_ok-kept-in-Block.ensures c.loop-item.invariant
      | in-Block+else-not-is_aside_tag w ↦
          ap (λ v. items_from (map piece_of v.items)) w.items-is
          ∙ next_aside _ _ _ w.in-Block.inner _ c.loop-item-test.true c.item-item.is w.in-Block.is (sym w.is_aside_tag.ensures ∙ w.if-not-is_aside_tag.false) c.loop-item.invariant
    ]

pub returns : goal.returns
returns t c =
    made_node _ _ refl c.in_ok-name.ensures (ap (λ xs. items_from (map piece_of xs)) c.shrink_to_fit.ensures.items ∙ c.loop-item.invariant ∙ ap (λ xs. output_items (items_from (map piece_of xs))) (take_all _ _ c.loop-item-test.false ∙ c.deref-item-items.ensures.value))
