use Rattle.std.proofs.Common.{◌≡◌, subst}
use Rattle.block_tree.specs.Tree.{Tree}
use Rattle.serde_json.specs.View.{view}
use Rattle.sheet_json.specs.Blocks.{tree_data}
use Rattle.sheet_json.specs.Objects.{shown_data}
use Rattle.stream_json.proofs.objects.outputs_of.Goals as goal

pub returns-clause-output : goal.returns-clause-output
returns-clause-output c = subst (λ (t : Tree). view c.in_ok-blocks.blocks ≡ tree_data t) c.in_ok-output.ensures c.in_ok-blocks.ensures

pub returns-clause-shown : goal.returns-clause-shown
returns-clause-shown c = subst (λ (t : Tree). view c.in_ok-shown.shown ≡ shown_data t) c.in_ok-output.ensures c.in_ok-shown.ensures
