use Rattle.std.proofs.Common.{◌≡◌, ◌++◌, List, ℕ, take}
use Rattle.report_order.specs.Log.{all_durable}
use Rattle.report_order.specs.Stamps.{WrittenInOrder}
use Rattle.report_order.proofs.stamping.serve_writing.Given as goal

abbrev pub invariant-loop-op : goal.invariant-loop-op
invariant-loop-op g l = (before : List ℕ) → (g.L.Log.history l.initial.log).now ≡ all_durable before
    → WrittenInOrder g.W.Stamps.held_at before (g.L.Log.history l.log) (take l.op-index l.ops) (g.W.Write.contents l.initial.out) (g.W.Write.contents l.out)
    × ((g.L.Log.history l.log).now ≡ all_durable (before ++ take l.op-index l.ops))
