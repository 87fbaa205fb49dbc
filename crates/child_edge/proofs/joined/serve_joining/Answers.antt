use Rattle.std.proofs.Common.{◌≡◌, [], List, ◌∙◌, subst}
use Rattle.host_events.specs.declared.reply.Reply.{Reply}
use Rattle.session_engine.specs.Joining.{asking, with_more}
use Rattle.child_edge.specs.Edge.{BrokeOff}
use Rattle.child_edge.specs.Faithful.{at}
use Rattle.child_edge.specs.inside.Joining.{JointUpTo}
use Rattle.child_edge.proofs.Joinings.{broke_joined, fails_with_joined}
use Rattle.child_edge.proofs.joined.serve_joining.Goals as goal

pub returns-in-Err-carry_joint-clause-err : goal.returns-in-Err-carry_joint-clause-err
returns-in-Err-carry_joint-clause-err g c = λ w h.
    let R = g.C.Children.after in
    let A = asking g.J.Joins.joins c.args.joins.now c.take_joining.new.joins in
    let took = c.in-Ok.ensures.ok w h in
    let mid = c.take_joining.new.host in
    let new = c.carry_joint.new in
    let none : c.reserve.new.self.items ≡ [] = c.reserve.ensures.items ∙ c.new-replies.ensures.items in
    broke_joined R A w c.args.children.now new.children c.args.events.items c.args.host.now mid new.host c.in-Ok.joint took new.replies.items c.in-Err-carry_joint.fault
    (with_more c.in-Ok.joint.outcomes.items c.in-Ok.joint.first took.more took.joined)
    (subst (λ (before : List Reply). BrokeOff (JointUpTo R c.in-Ok.joint (at took.kept.0 c.args.children.now mid.store.disk)) before new.host new.children new.replies.items c.in-Err-carry_joint.fault) none
    (c.in-Err-carry_joint.ensures.err took.kept.0 took.kept.2))

pub returns-in-Err-clause-err : goal.returns-in-Err-clause-err
returns-in-Err-clause-err g c = λ w h.
    fails_with_joined g.C.Children.after (asking g.J.Joins.joins c.args.joins.now c.take_joining.new.joins) w c.args.events.items c.args.host.now c.take_joining.new.host c.args.children.now c.in-Err.fault (c.in-Err.ensures.err w h)
