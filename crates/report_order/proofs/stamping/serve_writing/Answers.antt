use Rattle.std.proofs.Common.{sym, ap, ◌∙◌, append-nil, ◌++◌, take}
use Rattle.report_order.specs.Log.{all_durable}
use Rattle.report_order.specs.Stamps.{none}
use Rattle.report_order.proofs.Keeping.{on_ok}
use Rattle.report_order.proofs.Marking.{broke, grown, unwritten, whole}
use Rattle.report_order.proofs.stamping.serve_writing.Goals as goal

pub loop-op-init : goal.loop-op-init
loop-op-init g c = λ before is. (none, is ∙ ap all_durable (sym (append-nil before)))

pub returns-then-is_err : goal.returns-then-is_err
returns-then-is_err g c = record {
  serves = λ before is.
      let so = c.loop-op.invariant before is in
      broke g.W.Stamps.held_at before c.args.ops.now c.loop-op.op-index (g.W.Write.contents c.args.out.now) (g.W.Write.contents c.loop-op.out) (g.L.Log.history c.loop-op.log) (g.L.Log.history c.put_durably.new.log)
      so.0 (c.put_durably.ensures.moments (before ++ take c.loop-op.op-index c.args.ops.now) so.1) _;
}

pub returns-then-not-write_ok : goal.returns-then-not-write_ok
returns-then-not-write_ok g c = record {
  serves = λ before is.
      let so = c.loop-op.invariant before is in
      let done = before ++ take c.loop-op.op-index c.args.ops.now in
      unwritten g.W.Stamps.held_at before c.args.ops.now c.loop-op.op-index (g.W.Write.contents c.args.out.now) (g.W.Write.contents c.loop-op.out) (g.L.Log.history c.loop-op.log) (g.L.Log.history c.put_durably.new.log)
      so.0 (c.put_durably.ensures.moments done so.1) c.loop-op-test.true
      (on_ok c.put_durably.result _ (sym c.is_err.ensures.value ∙ c.if-is_err.false) (c.put_durably.ensures.puts done so.1)) c.stamp.ensures.held (g.W.Write.contents c.write_ok.new.out) _;
}

pub loop-op-preserved : goal.loop-op-preserved
loop-op-preserved g c = λ before is.
    let so = c.loop-op.invariant before is in
    let done = before ++ take c.loop-op.op-index c.args.ops.now in
    grown g.W.Stamps.held_at before c.args.ops.now c.loop-op.op-index (g.W.Write.contents c.args.out.now) (g.W.Write.contents c.loop-op.out) (g.L.Log.history c.loop-op.log) (g.L.Log.history c.put_durably.new.log)
    so.0 (c.put_durably.ensures.moments done so.1) c.loop-op-test.true
    (on_ok c.put_durably.result _ (sym c.is_err.ensures.value ∙ c.if-is_err.false) (c.put_durably.ensures.puts done so.1)) c.stamp.ensures.held (g.W.Write.contents c.write_ok.new.out)
    (c.write_ok.ensures.ok c.if-not-write_ok.false)

pub returns : goal.returns
returns g c = record {
  serves = λ before is.
      let so = c.loop-op.invariant before is in
      whole g.W.Stamps.held_at before c.args.ops.now c.loop-op.op-index (g.W.Write.contents c.args.out.now) (g.W.Write.contents c.loop-op.out) (g.L.Log.history c.loop-op.log) c.loop-op-test.false so.0 so.1;
}
