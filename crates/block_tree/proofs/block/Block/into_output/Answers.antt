use Rattle.std.proofs.Common.{◌≡◌, sym, ◌∙◌, subst}
use Rattle.block_tree.specs.Output.{output}
use Rattle.block_tree.specs.View.{tree_of}
use Rattle.block_tree.proofs.Asides.{own_output}
use Rattle.block_tree.proofs.block.Block.into_output.Goals as goal

pub returns-else-holds_aside : goal.returns-else-holds_aside
returns-else-holds_aside c = subst (λ b. b ≡ output b) c.self.view_is (sym (own_output (tree_of c.self.inside.node) c.self.invariant (sym c.holds_aside.ensures ∙ c.if-holds_aside.false)))
