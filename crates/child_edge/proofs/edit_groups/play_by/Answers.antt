use Rattle.std.proofs.Common.{sym, subst}
use Rattle.std.specs.Prelude.{Bool, IfErr, IfOk}
use Rattle.session_engine.specs.inside.Until.{HaltsBy, TookBy}
use Rattle.child_edge.proofs.edit_groups.play_by.Goals as goal

pub returns-then-up_to-clause-took : goal.returns-then-up_to-clause-took
returns-then-up_to-clause-took g c = λ w h.
    subst (λ (x : Bool). IfOk c.play_group_up_to.result (λ outcomes. TookBy x w c.args.events.items outcomes.items c.args.host.now c.play_group_up_to.new.self)) (sym c.if-up_to.true) (c.play_group_up_to.ensures.took w h)

pub returns-then-up_to-clause-halts : goal.returns-then-up_to-clause-halts
returns-then-up_to-clause-halts g c = λ w h.
    subst (λ (x : Bool). IfErr c.play_group_up_to.result (HaltsBy x w c.args.events.items c.args.host.now c.play_group_up_to.new.self)) (sym c.if-up_to.true) (c.play_group_up_to.ensures.halts w h)

pub returns-clause-took : goal.returns-clause-took
returns-clause-took g c = λ w h.
    subst (λ (x : Bool). IfOk c.play_group.result (λ outcomes. TookBy x w c.args.events.items outcomes.items c.args.host.now c.play_group.new.self)) (sym c.if-up_to.false) (c.play_group.ensures.took w h)

pub returns-clause-halts : goal.returns-clause-halts
returns-clause-halts g c = λ w h.
    subst (λ (x : Bool). IfErr c.play_group.result (HaltsBy x w c.args.events.items c.args.host.now c.play_group.new.self)) (sym c.if-up_to.false) (c.play_group.ensures.halts w h)
