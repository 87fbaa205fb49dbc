use Rattle.std.proofs.Common.{◌≡◌, [], List, ◌∙◌, subst, refl, length, arith}
use Rattle.host_events.specs.declared.outcome.Outcome.{Outcome}
use Rattle.host_events.specs.declared.reply.Reply.{Reply}
use Rattle.child_edge.specs.Edge.{BrokeOff, Ran}
use Rattle.child_edge.specs.Faithful.{at}
use Rattle.child_edge.specs.inside.Gating.{CarriedSoFar, EachUpTo}
use Rattle.child_edge.proofs.Gates.{as_many, broke_together, fails_at_once, ran_together}
use Rattle.child_edge.proofs.together.serve_together.Goals as goal

pub returns-in-Ok-carry_each-clause-ok : goal.returns-in-Ok-carry_each-clause-ok
returns-in-Ok-carry_each-clause-ok g c = λ w h.
    let took = c.in-Ok.ensures.ok w h in
    let none : c.reserve.new.self.items ≡ [] = c.reserve.ensures.items ∙ c.new-replies.ensures.items in
    ran_together g.C.Children.after w c.args.children.now c.carry_each.new.children c.args.events.items c.args.host.now c.take_at_once.new.host c.carry_each.new.host c.in-Ok.outcomes.items took c.carry_each.new.replies.items
    (record { outcomes = c.in-Ok.outcomes; replies = c.carry_each.new.replies }) refl refl
    (subst (λ (before : List Reply). Ran (CarriedSoFar g.C.Children.after c.in-Ok.outcomes.items (length c.in-Ok.outcomes.items) (at took.0 c.args.children.now c.take_at_once.new.host.store.disk)) before c.carry_each.new.host c.carry_each.new.children c.carry_each.new.replies.items) none
    (subst (λ (os : List Outcome). Ran (CarriedSoFar g.C.Children.after os (length os) (at took.0 c.args.children.now c.take_at_once.new.host.store.disk)) c.reserve.new.self.items c.carry_each.new.host c.carry_each.new.children c.carry_each.new.replies.items) c.as_slice.ensures.value
    (c.in-Ok-carry_each.ensures.ok took.0 took.2)))

pub returns-in-Err-carry_each-clause-err : goal.returns-in-Err-carry_each-clause-err
returns-in-Err-carry_each-clause-err g c = λ w h.
    let took = c.in-Ok.ensures.ok w h in
    let none : c.reserve.new.self.items ≡ [] = c.reserve.ensures.items ∙ c.new-replies.ensures.items in
    broke_together g.C.Children.after w c.args.children.now c.carry_each.new.children c.args.events.items c.args.host.now c.take_at_once.new.host c.carry_each.new.host c.in-Ok.outcomes.items took c.carry_each.new.replies.items c.in-Err-carry_each.fault
    (subst (λ (before : List Reply). BrokeOff (EachUpTo g.C.Children.after c.in-Ok.outcomes.items (at took.0 c.args.children.now c.take_at_once.new.host.store.disk)) before c.carry_each.new.host c.carry_each.new.children c.carry_each.new.replies.items c.in-Err-carry_each.fault) none
    (subst (λ (os : List Outcome). BrokeOff (EachUpTo g.C.Children.after os (at took.0 c.args.children.now c.take_at_once.new.host.store.disk)) c.reserve.new.self.items c.carry_each.new.host c.carry_each.new.children c.carry_each.new.replies.items c.in-Err-carry_each.fault) c.as_slice.ensures.value
    (c.in-Err-carry_each.ensures.err took.0 took.2)))

pub returns-in-Err-clause-err : goal.returns-in-Err-clause-err
returns-in-Err-clause-err g c = λ w h.
    fails_at_once g.C.Children.after w c.args.events.items c.args.host.now c.take_at_once.new.host c.args.children.now c.in-Err.fault (c.in-Err.ensures.err w h)

pub returns-then-len-count-clause-err : goal.returns-then-len-count-clause-err
returns-then-len-count-clause-err g c = λ w h.
    let took = c.in-Ok.ensures.ok w h in
    let count = as_many w c.args.events.items c.in-Ok.outcomes.items took.0 took.1.runs in
    absurd (omega (arith, c.if-len-count.true, c.len.ensures, c.len-count.ensures, c.args.events.ok, c.in-Ok.outcomes.ok, count))
