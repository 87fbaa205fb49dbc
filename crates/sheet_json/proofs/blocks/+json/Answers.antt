use Rattle.std.proofs.lemmas.Result.{IfOk-weaker}
use Rattle.serde_json.specs.View.{view}
use Rattle.sheet_json.proofs.Nodes.{node_made}
use Rattle.sheet_json.proofs.blocks.+json.Goals as goal

pub node_value-returns : goal.node_value-returns
node_value-returns t c =
    IfOk-weaker c.framed.result _ _
    (λ value reported. node_made c.args.node.now c.loop-item.inside.items _ _ (view value) c.loop-item-test.false c.deref-item-items.ensures.value c.loop-item.invariant reported) c.framed.ensures
