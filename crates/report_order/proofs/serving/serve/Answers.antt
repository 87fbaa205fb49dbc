use Rattle.std.proofs.Common.{sym, subst, ap, ◌∙◌, append-nil, ◌++◌, take, get_or, Bool}
use Rattle.report_order.specs.Log.{all_durable}
use Rattle.report_order.specs.Order.{none}
use Rattle.report_order.proofs.Keeping.{broke, grown, on_ok, unsaid, whole}
use Rattle.report_order.proofs.serving.serve.Goals as goal

pub loop-op-init : goal.loop-op-init
loop-op-init g c = λ before is. (none, is ∙ ap all_durable (sym (append-nil before)))

pub returns-then-is_err : goal.returns-then-is_err
returns-then-is_err g c = record {
  served = λ before is.
      let so = c.loop-op.invariant before is in
      broke g.T.OpReporter.tried before c.args.ops.now c.loop-op.op-index c.args.teller.now c.loop-op.teller (g.L.Log.history c.loop-op.log) (g.L.Log.history c.put_durably.new.log)
      so.0 (c.put_durably.ensures.moments (before ++ take c.loop-op.op-index c.args.ops.now) so.1) _;
}

pub returns-then-not-tell : goal.returns-then-not-tell
returns-then-not-tell g c = record {
  served = λ before is.
      let so = c.loop-op.invariant before is in
      let done = before ++ take c.loop-op.op-index c.args.ops.now in
      unsaid g.T.OpReporter.tried before c.args.ops.now c.loop-op.op-index c.args.teller.now c.loop-op.teller (g.L.Log.history c.loop-op.log) (g.L.Log.history c.put_durably.new.log)
      so.0 (c.put_durably.ensures.moments done so.1) c.loop-op-test.true
      (on_ok c.put_durably.result _ (sym c.is_err.ensures.value ∙ c.if-is_err.false) (c.put_durably.ensures.puts done so.1)) c.tell.new.self _
      (subst (λ (went : Bool). g.T.OpReporter.tried c.loop-op.teller (get_or c.args.ops.now c.loop-op.op-index 0) (g.L.Log.history c.put_durably.new.log) went c.tell.new.self) c.if-not-tell.true c.tell.ensures.tried);
}

pub loop-op-preserved : goal.loop-op-preserved
loop-op-preserved g c = λ before is.
    let so = c.loop-op.invariant before is in
    let done = before ++ take c.loop-op.op-index c.args.ops.now in
    grown g.T.OpReporter.tried before c.args.ops.now c.loop-op.op-index c.args.teller.now c.loop-op.teller (g.L.Log.history c.loop-op.log) (g.L.Log.history c.put_durably.new.log)
    so.0 (c.put_durably.ensures.moments done so.1) c.loop-op-test.true
    (on_ok c.put_durably.result _ (sym c.is_err.ensures.value ∙ c.if-is_err.false) (c.put_durably.ensures.puts done so.1)) c.tell.new.self
    (subst (λ (went : Bool). g.T.OpReporter.tried c.loop-op.teller (get_or c.args.ops.now c.loop-op.op-index 0) (g.L.Log.history c.put_durably.new.log) went c.tell.new.self) c.if-not-tell.false c.tell.ensures.tried)

pub returns : goal.returns
returns g c = record {
  served = λ before is.
      let so = c.loop-op.invariant before is in
      whole g.T.OpReporter.tried before c.args.ops.now c.loop-op.op-index c.args.teller.now c.loop-op.teller (g.L.Log.history c.loop-op.log) c.loop-op-test.false so.0 so.1;
}
