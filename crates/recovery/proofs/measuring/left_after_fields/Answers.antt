use Rattle.std.proofs.Common.{◌≡◌, ◌+◌, ◌-◌, ◌++◌, [], ℕ, List, Option, ap, sym, ◌∙◌, subst, arith}
use Rattle.std.specs.List.{AllByRecursion}
use Rattle.worksheet.specs.declared.op.Op.{Op}
use Rattle.worksheet.specs.declared.field.Field.{Field}
use Rattle.worksheet.specs.Rewrite.{field_ops, fields_ops, found_ops, ids_to}
use Rattle.recovery.specs.inside.Measured.{HasRecord, Measures}
use Rattle.recovery.proofs.measuring.left_after_fields.Goals.{in-Some+in-Some-left_after_field, in-None}
use Rattle.recovery.proofs.Gathering.{all_front, fields_step}
use Rattle.recovery.proofs.Measures.{measured_ends, measured_on, measured_stops, measures_none, rest_measured}
use Rattle.recovery.proofs.measuring.left_after_fields.Goals as goal

pub left_after_field-requires : goal.left_after_field-requires
left_after_field-requires c =
    let fields = c.args.sheet.now.contents.fields in
    let last = c.args.sheet.now.contents.next in
    let id = c.loop-id.id in
    let next = c.loop-id.next in
    let f = c.in-Some.field.now in
    let left = fields_ops fields (last - (id + 1)) (id + 1) (id + 1) in
    let rest : fields_ops fields (last - id) id next ≡ field_ops fields next f ++ left =
    fields_step fields last id next (omega (arith, c.loop-id-test.true, c.next_id-last.ensures)) ∙ ap (λ (o : Option Field). found_ops fields next o left (fields_ops fields (last - (id + 1)) (id + 1) next)) (sym c.in-Some.ensures) in
    (fields, all_front HasRecord (field_ops fields next f) left (subst (AllByRecursion HasRecord) rest (rest_measured HasRecord _ _ _ _ c.loop-id.invariant.so_far c.requires.records)))

pub returns-in-None-left_after_field : goal.returns-in-None-left_after_field
returns-in-None-left_after_field c =
    let fields = c.args.sheet.now.contents.fields in
    let last = c.args.sheet.now.contents.next in
    let id = c.loop-id.id in
    let next = c.loop-id.next in
    let f = c.in-Some.field.now in
    let left = fields_ops fields (last - (id + 1)) (id + 1) (id + 1) in
    let rest : fields_ops fields (last - id) id next ≡ field_ops fields next f ++ left =
    fields_step fields last id next (omega (arith, c.loop-id-test.true, c.next_id-last.ensures)) ∙ ap (λ (o : Option Field). found_ops fields next o left (fields_ops fields (last - (id + 1)) (id + 1) next)) (sym c.in-Some.ensures) in
    measured_stops _ _ (field_ops fields next f) left _ _ c.loop-id.invariant.so_far rest (c.in-None-left_after_field.ensures fields)

pub loop-id-preserved : goal.loop-id-preserved
loop-id-preserved c =
    let fields = c.args.sheet.now.contents.fields in
    let last = c.args.sheet.now.contents.next in
    let id = c.loop-id.id in
    let next = c.loop-id.next in
    let found = fields_ops fields (last - (id + 1)) (id + 1) (id + 1) in
    let none = fields_ops fields (last - (id + 1)) (id + 1) next in
    let step = fields_step fields last id next (omega (arith, c.loop-id-test.true, c.next_id-last.ensures)) in
    record {
      within = omega (arith, c.loop-id-test.true, c.next_id-last.ensures);
      so_far = elim c.match-field.branch [
        | in-Some+in-Some-left_after_field w ↦ rw (w.rest-is, w.next-is) (measured_on _ _ (field_ops fields next w.in-Some.field.now) found _ _ _ c.loop-id.invariant.so_far
            (step ∙ ap (λ (o : Option Field). found_ops fields next o found none) (sym w.in-Some.ensures)) (w.in-Some-left_after_field.ensures fields))
        | in-None w ↦ rw (w.rest-is, w.next-is) (measured_on _ _ [] none _ _ _ c.loop-id.invariant.so_far
            (step ∙ ap (λ (o : Option Field). found_ops fields next o found none) (sym w.in-None.ensures)) (measures_none _))
      ];
    }

pub returns : goal.returns
returns c =
    let fields = c.args.sheet.now.contents.fields in
    let last = c.args.sheet.now.contents.next in
    let id = c.loop-id.id in
    let next = c.loop-id.next in
    let none : last - id ≡ 0 = omega (arith, c.loop-id-test.false, c.next_id-last.ensures, c.loop-id.invariant.within) in
    let there : c.next_id-last.result ≡ id = omega (arith, c.loop-id-test.false, c.next_id-last.ensures, c.loop-id.invariant.within) in
    let rest : fields_ops fields (last - id) id next ≡ ids_to next c.next_id-last.result = ap (λ (n : ℕ). fields_ops fields n id next) none ∙ ap (λ (n : ℕ). ids_to next n) (sym there) in
    measured_ends _ (fields_ops fields (last - id) id next) c.left_after_ids.result c.args.left c.loop-id.rest c.loop-id.invariant.so_far
    (subst (λ (l : List Op). Measures l c.loop-id.rest c.left_after_ids.result) (sym rest) c.left_after_ids.ensures)
