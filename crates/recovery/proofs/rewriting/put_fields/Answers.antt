use Rattle.std.proofs.Common.{◌<◌, length, ◌+◌, ◌-◌, [], Option, ap, sym, ◌∙◌, arith}
use Rattle.std.proofs.lemmas.Grind.{get_or_default_zero}
use Rattle.worksheet.specs.declared.field.Field.{Field}
use Rattle.worksheet.specs.Rewrite.{field_ops, fields_ops, found_ops}
use Rattle.recovery.proofs.rewriting.put_fields.Goals.{in-Some+in_ok-put_field-in-Some, in-None}
use Rattle.recovery.proofs.Gathering.{fields_step, gathered_none, so_far_on}
use Rattle.recovery.proofs.InFront.{after_found}
use Rattle.recovery.proofs.rewriting.put_fields.Goals as goal

-- what stands at the place of the number is the number in front of the field
pub index-requires : goal.index-requires
index-requires c = omega (arith, c.loop-id-test.true, c.next_id-last.ensures, c.in_ok-afters.ensures.places, c.in_ok-afters.afters.ok)

pub loop-id-preserved : goal.loop-id-preserved
loop-id-preserved c =
    let fields = c.args.sheet.now.contents.fields in
    let last = c.args.sheet.now.contents.next in
    let id = c.loop-id.id in
    let next = c.loop-id.next in
    let found = fields_ops fields (last - (id + 1)) (id + 1) (id + 1) in
    let none = fields_ops fields (last - (id + 1)) (id + 1) next in
    let step = fields_step fields last id next (omega (arith, c.loop-id-test.true, c.next_id-last.ensures)) in
    let place : id < length c.in_ok-afters.afters.items = omega (arith, c.loop-id-test.true, c.next_id-last.ensures, c.in_ok-afters.ensures.places) in
    record {
      within = omega (arith, c.loop-id-test.true, c.next_id-last.ensures);
      so_far = elim c.match-field.branch [
        | in-Some+in_ok-put_field-in-Some w ↦ rw (w.records-is, w.next-is) (so_far_on _ _ (field_ops fields next w.in-Some.field.now) found _ _ _ c.loop-id.invariant.so_far
            (step ∙ ap (λ (o : Option Field). found_ops fields next o found none) (sym w.in-Some.ensures)) (w.in_ok-put_field-in-Some.ensures fields (w.index.ensures ∙ get_or_default_zero c.in_ok-afters.afters.items id w.index.result.now place ∙ after_found c.args.sheet.now.contents c.in_ok-afters.afters.items id w.in-Some.field.now c.in_ok-afters.ensures (sym w.in-Some.ensures))))
        | in-None w ↦ rw (w.records-is, w.next-is) (so_far_on _ _ [] none _ _ _ c.loop-id.invariant.so_far
            (step ∙ ap (λ (o : Option Field). found_ops fields next o found none) (sym w.in-None.ensures)) (gathered_none _))
      ];
    }
