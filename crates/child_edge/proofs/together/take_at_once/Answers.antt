use Rattle.std.proofs.Common.{sym, subst}
use Rattle.session_engine.specs.declared.play.GroupFault.{GroupFault}
use Rattle.session_engine.specs.Groups.{HaltsGroup}
use Rattle.child_edge.proofs.Gates.{TakesNone, lost_at_once, none_at_once, stopped_at_once, took_at_once}
use Rattle.child_edge.proofs.together.take_at_once.Goals as goal

pub returns-in-Ok-clause-ok : goal.returns-in-Ok-clause-ok
returns-in-Ok-clause-ok g c = λ w h.
    took_at_once w c.args.host.now c.play.new.host c.play.ensures.before.1 c.play.ensures.after h c.play.ensures.same c.args.events.items c.in-Ok.outcomes.items (c.in-Ok.ensures.took w h)

pub returns-in-Err-Disk-clause-err : goal.returns-in-Err-Disk-clause-err
returns-in-Err-Disk-clause-err g c = λ w h.
    lost_at_once w c.args.host.now c.play.new.host c.play.ensures.before.1 c.play.ensures.after h c.play.ensures.same c.args.events.items
    (subst (λ (x : GroupFault). HaltsGroup w c.args.events.items c.args.host.now c.play.new.host x) c.in-Err-Disk.field-0-is (c.in-Err-Disk.ensures.halts w h))

pub returns-in-Err-Stopped-clause-err : goal.returns-in-Err-Stopped-clause-err
returns-in-Err-Stopped-clause-err g c = λ w h.
    stopped_at_once w c.args.host.now c.play.new.host c.play.ensures.before.1 c.play.ensures.after h c.play.ensures.same c.args.events.items c.in-Err-Stopped.field-0-0.items c.in-Err-Stopped.fault
    (subst (λ (x : GroupFault). HaltsGroup w c.args.events.items c.args.host.now c.play.new.host x) c.in-Err-Stopped.field-0-is (c.in-Err-Stopped.ensures.halts w h))

pub returns-in-Err-NoRoom-clause-err : goal.returns-in-Err-NoRoom-clause-err
returns-in-Err-NoRoom-clause-err g c = λ w h.
    none_at_once w c.args.host.now c.play.new.host c.play.ensures.before.1 c.play.ensures.after h c.play.ensures.same c.args.events.items c.play.ensures.before.0 c.in-Err-NoRoom.field-0
    (subst TakesNone (sym c.in-Err-NoRoom.field-0-is) tt) (c.in-Err-NoRoom.ensures.halts w h)

pub returns-clause-err : goal.returns-clause-err
returns-clause-err g c = λ w h.
    none_at_once w c.args.host.now c.play.new.host c.play.ensures.before.1 c.play.ensures.after h c.play.ensures.same c.args.events.items c.play.ensures.before.0 c.in-Err-Checkpoint.field-0
    (subst TakesNone (sym c.in-Err-Checkpoint.field-0-is) tt) (c.in-Err-Checkpoint.ensures.halts w h)
