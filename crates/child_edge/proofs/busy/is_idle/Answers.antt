use Rattle.std.proofs.Common.{◌≡◌, [], true, false, refl, ap, ◌∙◌}
use Rattle.child_edge.proofs.Seating.{seats-start, idle-on, not-idle}
use Rattle.child_edge.proofs.busy.is_idle.Goals as goal

pub loop-session-init : goal.loop-session-init
loop-session-init g c = λ w h.
    seats-start w [] c.into_iter-session-iterator.result refl
    (c.into_iter-session-iterator.ensures.into_iter_gives ∙ c.sessions-session-items.ensures ∙ ap (λ s. s.sessions) (c.sheet.ensures.stands w h))

pub loop-session-preserved : goal.loop-session-preserved
loop-session-preserved g c = λ w h.
    idle-on w c.in-Some.session.now c.loop-session.session-iterator c.next.new.self c.life.result c.in-Some.ensures.steps (c.life.ensures.life w h)
    (c.if-is_waited_for.ensures c.in-Some.session.now.name) (c.loop-session.invariant w h)

pub returns-then-is_waited_for : goal.returns-then-is_waited_for
returns-then-is_waited_for g c = λ w h. (
  λ no. let wrong : false ≡ true = no in absurd cc,
  λ none. absurd (not-idle w c.in-Some.session.now c.loop-session.session-iterator c.next.new.self c.life.result c.in-Some.ensures.steps (c.life.ensures.life w h)
      (c.if-is_waited_for.ensures c.in-Some.session.now.name) (c.loop-session.invariant w h) none),
)
