use Rattle.std.proofs.Common.{sym, ◌∙◌, arith}
use Rattle.evaluation.proofs.Together.{joined, none_joins, none_left_joins}
use Rattle.evaluation.proofs.beside.joining.Goals as goal

pub returns-then-at-ids-clause-none : goal.returns-then-at-ids-clause-none
returns-then-at-ids-clause-none g c = λ w h e. none_left_joins c.args.plan.now w c.args.ids.now c.args.stand.now (grind (arith))

pub returns-then-joins_next-clause-next : goal.returns-then-joins_next-clause-next
returns-then-joins_next-clause-next g c = λ w id h there. joined c.args.plan.now w c.args.ids.now c.args.stand.now c.id_at.result id c.id_at.ensures
    (sym (c.joins_next.ensures w h) ∙ c.if-joins_next.true) there

pub returns-else-joins_next-clause-none : goal.returns-else-joins_next-clause-none
returns-else-joins_next-clause-none g c = λ w h e. none_joins c.args.plan.now w c.args.ids.now c.args.stand.now c.id_at.result c.id_at.ensures (sym (c.joins_next.ensures w h) ∙ c.if-joins_next.false)
