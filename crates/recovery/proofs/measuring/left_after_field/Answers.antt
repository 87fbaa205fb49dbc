use Rattle.worksheet.specs.declared.op.Op.TheVariants as op
use Rattle.worksheet.specs.Checks.{numbers}
use Rattle.worksheet.specs.Rewrite.{smaller_before}
use Rattle.recovery.proofs.Measures.{field_measures, field_stops}
use Rattle.recovery.proofs.measuring.left_after_field.Goals as goal

pub returns-in_default-left_after : goal.returns-in_default-left_after
returns-in_default-left_after c = λ fields.
    let f = c.args.field.now in
    let o = op.New (smaller_before 0 f.id (numbers fields)) f.session f.input in
    field_stops fields c.args.next f c.args.left c.in-Some.left c.in-Some.ensures (c.in_default-left_after.ensures o c.new_len.ensures)

pub returns : goal.returns
returns c = λ fields.
    let f = c.args.field.now in
    let o = op.New (smaller_before 0 f.id (numbers fields)) f.session f.input in
    field_measures fields c.args.next f c.left_after_outcome.result c.args.left c.in-Some.left c.in-Some-left_after.left c.in-Some.ensures (c.in-Some-left_after.ensures o c.new_len.ensures) c.left_after_outcome.ensures
