use Rattle.std.proofs.Common.{ap, ◌∙◌}
use Rattle.report_order.specs.Log.{LogState, MayRemain, with_op}
use Rattle.report_order.specs.Order.{BeginsWith}
use Rattle.report_order.proofs.Keeping.{weakens, joined, of_put, of_synced}
use Rattle.report_order.proofs.serving.put_durably.Goals as goal

pub returns-in_err-put-clause-moments : goal.returns-in_err-put-clause-moments
returns-in_err-put-clause-moments g c = λ ops is. weakens _ (BeginsWith ops) (g.L.Log.history c.args.log.now) (g.L.Log.history c.put.new.self)
    (of_put ops c.args.op (g.L.Log.history c.args.log.now).now is) c.put.ensures.puts.moments

pub returns-clause-moments : goal.returns-clause-moments
returns-clause-moments g c = λ ops is. joined (BeginsWith ops) (g.L.Log.history c.args.log.now) (g.L.Log.history c.put.new.self) (g.L.Log.history c.sync.new.self)
    (weakens _ (BeginsWith ops) (g.L.Log.history c.args.log.now) (g.L.Log.history c.put.new.self)
    (of_put ops c.args.op (g.L.Log.history c.args.log.now).now is) c.put.ensures.puts.moments)
    (weakens (MayRemain (g.L.Log.history c.put.new.self).now) (BeginsWith ops) (g.L.Log.history c.put.new.self) (g.L.Log.history c.sync.new.self)
    (of_synced ops c.args.op (g.L.Log.history c.put.new.self).now (c.in_ok-put.ensures.puts.put ∙ ap (λ (s : LogState). with_op c.args.op s) is)) c.sync.ensures.syncs.moments)
