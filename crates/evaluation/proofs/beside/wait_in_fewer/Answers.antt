use Rattle.std.proofs.Common.{◌-◌, ap, ◌∙◌}
use Rattle.evaluation.specs.inside.Beside.{one_if}
use Rattle.evaluation.proofs.Together.{seats_begin, seats_next}
use Rattle.evaluation.proofs.beside.wait_in_fewer.Goals as goal

pub loop-session-init : goal.loop-session-init
loop-session-init g c = λ w h.
    seats_begin c.args.most w c.into_iter-session-iterator.result
    (c.into_iter-session-iterator.ensures.into_iter_gives ∙ c.sessions-session-items.ensures ∙ ap (λ s. s.sessions) (c.sheet.ensures.stands w h))

pub loop-session-preserved : goal.loop-session-preserved
loop-session-preserved g c = λ w h.
    seats_next c.args.most w c.in-Some.session.now c.loop-session.session-iterator c.next.new.self c.life.result c.loop-session.left c.left_of-left.result c.in-Some.ensures.steps (c.life.ensures.life w h)
    (c.left_of-left.ensures ∙ ap (λ b. c.loop-session.left - one_if b) c.is_busy.ensures) (c.loop-session.invariant w h)
