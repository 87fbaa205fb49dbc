use Rattle.std.proofs.Common.{◌∙◌, ap, arith, length}
use Rattle.field_agenda.proofs.bounds.has_few_fields.Goals as goal

pub loop-field-init : goal.loop-field-init
loop-field-init c =
    let all = ap length (c.into_iter-field-iterator.ensures.into_iter_gives ∙ c.fields-field-items.ensures) in
    record { counted = omega (arith, all); few = omega arith }

pub loop-field-preserved : goal.loop-field-preserved
loop-field-preserved c =
    let next = ap length c.in-Some.ensures.steps in
    record { counted = omega (arith, next, c.loop-field.invariant.counted); few = omega (arith, c.if-count-ge-MOST_FIELDS.false, c.loop-field.invariant.few) }

pub returns-then-count-ge-MOST_FIELDS-clause-no : goal.returns-then-count-ge-MOST_FIELDS-clause-no
returns-then-count-ge-MOST_FIELDS-clause-no c = λ is.
    let next = ap length c.in-Some.ensures.steps in
    omega (arith, next, c.loop-field.invariant.counted, c.if-count-ge-MOST_FIELDS.true)
