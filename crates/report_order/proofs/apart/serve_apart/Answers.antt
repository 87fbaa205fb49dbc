use Rattle.std.proofs.Common.{sym, ◌∙◌}
use Rattle.report_order.specs.Order.{BeginsWith}
use Rattle.report_order.proofs.Keeping.{of_settled, on_ok, started}
use Rattle.report_order.proofs.apart.serve_apart.Goals as goal

pub returns-then-not-write_ok-clause-moments : goal.returns-then-not-write_ok-clause-moments
returns-then-not-write_ok-clause-moments g c = λ ops is. started (BeginsWith ops) (g.L.Log.history c.args.log.now) (of_settled ops (g.L.Log.history c.args.log.now).now is)

pub returns-clause-puts : goal.returns-clause-puts
returns-clause-puts g c = λ ops is. on_ok c.put_durably.result _ (sym c.is_err.ensures.value ∙ c.if-is_err.false) (c.put_durably.ensures.puts ops is)
