use Rattle.std.proofs.Common.{List, length, subst}
use Rattle.host_events.specs.declared.outcome.Outcome.{Outcome}
use Rattle.child_edge.specs.Edge.{BrokeOff, Ran}
use Rattle.child_edge.specs.Faithful.{at}
use Rattle.child_edge.specs.inside.Gating.{CarriedSoFar, EachUpTo}
use Rattle.child_edge.proofs.Joinings.{broke_later, broke_sooner, carried_both}
use Rattle.child_edge.proofs.joined.carry_joint.Goals as goal

pub returns-in-Ok-carry_each-clause-ok : goal.returns-in-Ok-carry_each-clause-ok
returns-in-Ok-carry_each-clause-ok g c = λ w h.
    let R = g.C.Children.after in
    let s = at w c.args.children.now c.args.host.now.store.disk in
    let mid = c.carry_each.new in
    let new = c.carry_each-in-Ok.new in
    let so = subst (λ (os : List Outcome). Ran (CarriedSoFar R os (length os) s) c.args.replies.now.items mid.host mid.children mid.replies.items) c.as_slice.ensures.value (c.in-Ok.ensures.ok w h) in
    let more = subst (λ (os : List Outcome). Ran (CarriedSoFar R os (length os) (at so.leads mid.children mid.host.store.disk)) mid.replies.items new.host new.children new.replies.items) c.as_slice-in-Ok.ensures.value
    (c.in-Ok-carry_each.ensures.ok so.leads so.stands) in
    carried_both R c.args.joint.now.outcomes.items c.args.joint.now.later.items s c.args.replies.now.items mid.host new.host mid.children new.children mid.replies.items new.replies.items so more

pub returns-in-Err-carry_each-clause-err : goal.returns-in-Err-carry_each-clause-err
returns-in-Err-carry_each-clause-err g c = λ w h.
    let R = g.C.Children.after in
    let s = at w c.args.children.now c.args.host.now.store.disk in
    let mid = c.carry_each.new in
    let new = c.carry_each-in-Ok.new in
    let so = subst (λ (os : List Outcome). Ran (CarriedSoFar R os (length os) s) c.args.replies.now.items mid.host mid.children mid.replies.items) c.as_slice.ensures.value (c.in-Ok.ensures.ok w h) in
    let more = subst (λ (os : List Outcome). BrokeOff (EachUpTo R os (at so.leads mid.children mid.host.store.disk)) mid.replies.items new.host new.children new.replies.items c.in-Err-carry_each.fault) c.as_slice-in-Ok.ensures.value
    (c.in-Err-carry_each.ensures.err so.leads so.stands) in
    broke_later R c.args.joint.now.outcomes.items c.args.joint.now.later.items s c.args.replies.now.items mid.host new.host mid.children new.children mid.replies.items new.replies.items so c.in-Err-carry_each.fault more

pub returns-in-Err-clause-err : goal.returns-in-Err-clause-err
returns-in-Err-clause-err g c = λ w h.
    let R = g.C.Children.after in
    let s = at w c.args.children.now c.args.host.now.store.disk in
    let new = c.carry_each.new in
    let p = subst (λ (os : List Outcome). BrokeOff (EachUpTo R os s) c.args.replies.now.items new.host new.children new.replies.items c.in-Err.fault) c.as_slice.ensures.value (c.in-Err.ensures.err w h) in
    broke_sooner R c.args.joint.now.outcomes.items c.args.joint.now.later.items s c.args.replies.now.items new.host new.children new.replies.items c.in-Err.fault p
