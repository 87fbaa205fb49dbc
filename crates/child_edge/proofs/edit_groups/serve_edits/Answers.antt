use Rattle.std.proofs.Common.{sym, subst}
use Rattle.session_engine.specs.declared.play.GroupFault.{GroupFault}
use Rattle.session_engine.specs.Groups.{HaltsGroup}
use Rattle.session_engine.specs.inside.Until.{HaltsBy}
use Rattle.child_edge.proofs.Edits.{halts_group, lost_edits, never_stopped, took_edits}
use Rattle.child_edge.proofs.Gates.{TakesNone, none_at_once, same_disk}
use Rattle.child_edge.proofs.edit_groups.serve_edits.Goals as goal

pub returns-in-Ok-clause-ok : goal.returns-in-Ok-clause-ok
returns-in-Ok-clause-ok g c = λ w h.
    took_edits w c.args.host.now c.play.new.host c.play.ensures.before.1 c.play.ensures.after h c.play.ensures.same c.args.up_to c.args.edits c.in-Ok.outcomes.items c.play.ensures.edits (c.in-Ok.ensures.took w h)

pub returns-in-Err-Disk-clause-err : goal.returns-in-Err-Disk-clause-err
returns-in-Err-Disk-clause-err g c = λ w h.
    lost_edits w c.args.host.now c.play.new.host c.play.ensures.before.1 c.play.ensures.after h c.play.ensures.same c.args.up_to c.args.edits
    (subst (λ (x : GroupFault). HaltsBy c.args.up_to w c.args.edits c.args.host.now c.play.new.host x) c.in-Err-Disk.field-0-is (c.in-Err-Disk.ensures.halts w h))

pub returns-in-Err-Stopped-clause-err : goal.returns-in-Err-Stopped-clause-err
returns-in-Err-Stopped-clause-err g c = λ w h.
    absurd (never_stopped w c.args.edits c.args.host.now c.play.new.host c.in-Err-Stopped.field-0-0.items c.in-Err-Stopped.field-0-1 c.play.ensures.edits
    (subst (λ (x : GroupFault). HaltsGroup w c.args.edits c.args.host.now c.play.new.host x) c.in-Err-Stopped.field-0-is
    (halts_group c.args.up_to w c.args.edits c.args.host.now c.play.new.host c.in-Err-Stopped.field-0 (c.in-Err-Stopped.ensures.halts w h))))

pub returns-in-Err-NoRoom-clause-err : goal.returns-in-Err-NoRoom-clause-err
returns-in-Err-NoRoom-clause-err g c = λ w h.
    none_at_once w c.args.host.now c.play.new.host c.play.ensures.before.1 c.play.ensures.after h c.play.ensures.same c.args.edits c.play.ensures.before.0 c.in-Err-NoRoom.field-0 (subst TakesNone (sym c.in-Err-NoRoom.field-0-is) tt)
    (halts_group c.args.up_to w c.args.edits c.args.host.now c.play.new.host c.in-Err-NoRoom.field-0 (c.in-Err-NoRoom.ensures.halts w h))

pub returns-clause-err : goal.returns-clause-err
returns-clause-err g c = λ w h.
    none_at_once w c.args.host.now c.play.new.host c.play.ensures.before.1 c.play.ensures.after h c.play.ensures.same c.args.edits c.play.ensures.before.0 c.in-Err-Checkpoint.field-0 (subst TakesNone (sym c.in-Err-Checkpoint.field-0-is) tt)
    (halts_group c.args.up_to w c.args.edits c.args.host.now c.play.new.host c.in-Err-Checkpoint.field-0 (c.in-Err-Checkpoint.ensures.halts w h))
