use Rattle.std.proofs.Common.{take}
use Rattle.sheet_json.proofs.Nodes.{Made}
use Rattle.sheet_json.proofs.blocks.+json.Given as goal

abbrev pub invariant-node_value-loop-item : goal.invariant-node_value-loop-item
invariant-node_value-loop-item l = Made l.inside.items (take l.item-index l.item-items)
