use Rattle.std.proofs.Common.{ap, length, arith}
use Rattle.sheet_check.specs.Progress.{checked_count}
use Rattle.sheet_check.proofs.sessions.count_checked.Goals as goal

pub loop-field-init : goal.loop-field-init
loop-field-init c =
    let all = ap length c.fields-fields.ensures in
    let sum = ap (checked_count c.args.chosen.now) c.fields-fields.ensures in
    record { few = omega (arith, all); sum = omega (arith, sum) }

pub overflow_add-count : goal.overflow_add-count
overflow_add-count c = omega (arith, ap length c.in-Some.ensures.steps, c.loop-field.invariant.few, c.requires)
