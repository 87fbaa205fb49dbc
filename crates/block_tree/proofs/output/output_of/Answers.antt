use Rattle.std.proofs.Common.{ap, ◌∙◌}
use Rattle.block_tree.specs.Shape.{is_block}
use Rattle.block_tree.specs.View.{tree_of}
use Rattle.block_tree.proofs.Outputs.{kept_is_block}
use Rattle.block_tree.proofs.output.output_of.Goals as goal

pub invariant_of-result-else-is_aside_tag : goal.invariant_of-result-else-is_aside_tag
invariant_of-result-else-is_aside_tag c = ap is_block c.in_ok-node.ensures ∙ kept_is_block (tree_of c.block.inside.node) c.block.invariant
