use Rattle.std.proofs.Common.{subst}
use Rattle.session_engine.specs.Joining.{HaltsJoined, asking}
use Rattle.session_engine.specs.declared.joining.JoinFault.{JoinFault}
use Rattle.child_edge.proofs.Joinings.{stopped_with_joined, took_with_joined}
use Rattle.child_edge.proofs.joined.take_joining.Goals as goal

pub returns-in-Ok-clause-ok : goal.returns-in-Ok-clause-ok
returns-in-Ok-clause-ok g c = λ w h.
    took_with_joined (asking g.J.Joins.joins c.args.joins.now c.play.new.joins) w c.args.events.items c.args.host.now c.play.new.host c.play.ensures.before c.play.ensures.after h c.play.ensures.same c.in-Ok.joint (c.in-Ok.ensures.took w h)

pub returns-in-Err-Stopped-clause-err : goal.returns-in-Err-Stopped-clause-err
returns-in-Err-Stopped-clause-err g c = λ w h.
    stopped_with_joined (asking g.J.Joins.joins c.args.joins.now c.play.new.joins) w c.args.events.items c.args.host.now c.play.new.host c.play.ensures.before c.play.ensures.after h c.play.ensures.same c.in-Err-Stopped.fault
    (subst (λ (x : JoinFault). HaltsJoined (asking g.J.Joins.joins c.args.joins.now c.play.new.joins) w c.args.events.items c.args.host.now c.play.new.host x) c.in-Err-Stopped.field-0-is (c.in-Err-Stopped.ensures.halts w h))
