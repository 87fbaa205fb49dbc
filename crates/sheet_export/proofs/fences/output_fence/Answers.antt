use Rattle.std.proofs.Common.{ap, ◌∙◌}
use Rattle.block_tree.specs.View.{tree_of}
use Rattle.sheet_text.specs.Blocks.{block_text}
use Rattle.sheet_export.specs.declared.fences.Fence.{Fence}
use Rattle.sheet_export.specs.Fences.{fence_length}
use Rattle.sheet_text.specs.Texts.{in_lines}
use Rattle.sheet_export.proofs.Scans.{lines_length}
use Rattle.sheet_export.proofs.fences.output_fence.Goals as goal

pub returns : goal.returns
returns c =
    ap (λ (fence : Fence). fence.length) c.in_ok-fence.ensures ∙ lines_length (block_text (tree_of c.node.result.now)) ∙ ap (λ t. fence_length (in_lines (block_text t))) c.node.ensures.same
