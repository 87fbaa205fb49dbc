use Rattle.std.proofs.Common.{false, take, ◌∷◌, ◌++◌, [], flat_map, sym, ◌∙◌, subst, string_bytes}
use Rattle.std.proofs.lemmas.Bool.{true≢false}
use Rattle.block_tree.specs.View.{piece_of}
use Rattle.block_tree.specs.declared.tree.Node.{out-Node}
use Rattle.sheet_text.specs.Blocks.{sign}
use Rattle.sheet_notebook.specs.Strings.{piece_string, string_of}
use Rattle.sheet_notebook.specs.inside.Adds.{Adds}
use Rattle.sheet_notebook.proofs.Blocks.{framed_done, bare_done}
use Rattle.sheet_notebook.proofs.strings.+push_node.Goals.{then-not-bare+in_ok-push_tag, else-not-bare}
use Rattle.sheet_notebook.proofs.strings.+push_node.Goals as goal

pub returns-in_ok-close_tag : goal.returns-in_ok-close_tag
returns-in_ok-close_tag t c =
    let last : Adds (string_bytes c.loop-item.text) (string_bytes c.close_tag.new.text) (125 ∷ []) = c.in_ok-close_tag.ensures in
    elim c.if-not-bare.branch [
      | then-not-bare+in_ok-push_tag w ↦
          framed_done c.args.node.now _ _ _ (string_bytes c.args.text.now) (string_bytes c.if-not-bare.text) (string_bytes c.loop-item.text) (string_bytes c.close_tag.new.text) c.is_bare_tag-bare.ensures c.if-not-bare-2.true c.loop-item-test.false c.deref-item-items.ensures.value
          (subst (λ o. Adds (string_bytes c.args.text.now) (string_bytes o) (123 ∷ (string_of false (out-Node c.args.node.now).tag.name ++ sign (out-Node c.args.node.now).tag.channel ∷ []))) (sym w.text-is) w.in_ok-push_tag.ensures) c.loop-item.invariant last
      | else-not-bare w ↦ absurd (true≢false (sym w.if-not-bare.false ∙ c.if-not-bare-2.true))
    ]

pub returns-else-not-bare-2 : goal.returns-else-not-bare-2
returns-else-not-bare-2 t c =
    elim c.if-not-bare.branch [
      | then-not-bare+in_ok-push_tag w ↦ absurd (true≢false (sym c.if-not-bare-2.false ∙ w.if-not-bare.true))
      | else-not-bare w ↦ bare_done c.args.node.now _ _ _ (string_bytes c.args.text.now) (string_bytes c.loop-item.text) c.is_bare_tag-bare.ensures c.if-not-bare-2.false c.loop-item-test.false c.deref-item-items.ensures.value
          (subst (λ o. Adds (string_bytes o) (string_bytes c.loop-item.text) (flat_map (λ x. piece_string (piece_of x)) (take c.loop-item.item-index c.deref-item-items.result.now))) w.text-is c.loop-item.invariant)
    ]
