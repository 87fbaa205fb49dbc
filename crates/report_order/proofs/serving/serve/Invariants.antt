use Rattle.std.proofs.Common.{◌≡◌, ◌++◌, List, ℕ, take}
use Rattle.report_order.specs.Log.{all_durable}
use Rattle.report_order.specs.Order.{ReportedInOrder}
use Rattle.report_order.proofs.serving.serve.Given as goal

abbrev pub invariant-loop-op : goal.invariant-loop-op
invariant-loop-op g l = (before : List ℕ) → (g.L.Log.history l.initial.log).now ≡ all_durable before
    → ReportedInOrder (g.T.OpReporter.tried) before (g.L.Log.history l.log) (take l.op-index l.ops) l.initial.teller l.teller
    × ((g.L.Log.history l.log).now ≡ all_durable (before ++ take l.op-index l.ops))
