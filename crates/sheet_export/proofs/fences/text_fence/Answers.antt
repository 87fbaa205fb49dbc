use Rattle.std.proofs.Common.{ap, ◌∙◌}
use Rattle.sheet_export.specs.declared.fences.Fence.{Fence}
use Rattle.sheet_export.proofs.Scans.{text_length}
use Rattle.sheet_export.proofs.fences.text_fence.Goals as goal

pub returns : goal.returns
returns c = ap (λ (fence : Fence). fence.length) c.in_ok-fence.ensures ∙ text_length c.args.text.now
