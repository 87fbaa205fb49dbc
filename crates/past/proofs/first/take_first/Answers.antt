use Rattle.std.proofs.Common.{◌++◌, ◌∷◌, [], sym, ◌∙◌, subst, arith, inl, length-append, IsTrue}
use Rattle.disk_model.specs.Disk.{DiskView, Looks, bytes_on}
use Rattle.disk_model.specs.inside.Moments.{looks_on}
use Rattle.recovery.specs.Sheets.{codes_of}
use Rattle.past.proofs.Firsts.{enough_given, few_before, most_before}
use Rattle.recovery.proofs.Rescues.{found_before, found_whole, left_beyond, made_before}
use Rattle.past.proofs.first.take_first.Goals as goal

pub returns-in-Err-take-clause-looks : goal.returns-in-Err-take-clause-looks
returns-in-Err-take-clause-looks g c = λ model.
    let before = c.loop-kept.invariant in
    let model1 = subst IsTrue (sym before.same.keeps_model) model in
    let looks = rw c.in-Ok-Payload.field-0-is at c.in-Ok-Payload.ensures.looks model1 in
    subst (λ (d : DiskView). Looks c.args.front.disk.history d.history) (sym (c.end_rescue.ensures.disk ∙ c.into_disk.ensures)) (looks_on _ _ _ (before.looks model) looks)

pub returns-in-Err-take-clause-found : goal.returns-in-Err-take-clause-found
returns-in-Err-take-clause-found g c = λ model payloads has.
    let before = c.loop-kept.invariant in
    let model1 = subst IsTrue (sym before.same.keeps_model) model in
    let far = before.reached.so_far model payloads has in
    let next = rw c.in-Ok-Payload.field-0-is at (c.in-Ok-Payload.ensures.given model1 (codes_of before.reached.ops) far.left far.given) in
    let on = rw c.in-Ok-Payload.field-0-is at c.in-Ok-Payload.ensures.on in
    few_before (bytes_on c.args.front.disk) c.args.count c.into_disk.result c.take.new.sheet c.loop-kept.kept c.in-Err-take.cause c.end_rescue.result c.end_rescue.ensures.stops c.loop-kept-test.true
    (found_before c.args.front c.loop-kept.front c.loop-kept.sheet c.take.new.sheet c.loop-kept.kept c.into_disk.result c.in-Ok-Payload.payload payloads c.in-Err-take.cause c.end_rescue.result before.reached has far next.0 next.1 on.0
    c.in-Err-take.ensures.as_before (c.in-Err-take.ensures.refused before.reached.ops before.reached.makes) c.end_rescue.ensures.stops)

pub returns-in-Err-take-clause-most : goal.returns-in-Err-take-clause-most
returns-in-Err-take-clause-most g c = most_before c.args.count c.into_disk.result c.take.new.sheet c.loop-kept.kept c.in-Err-take.cause c.end_rescue.result c.end_rescue.ensures.stops c.loop-kept-test.true

pub returns-in-Err-take-clause-made : goal.returns-in-Err-take-clause-made
returns-in-Err-take-clause-made g c =
    let before = c.loop-kept.invariant in
    made_before before.reached.ops c.loop-kept.sheet c.take.new.sheet c.loop-kept.kept c.into_disk.result c.in-Ok-Payload.payload c.in-Err-take.cause c.end_rescue.result before.reached.makes before.reached.count
    c.in-Err-take.ensures.as_before (c.in-Err-take.ensures.refused before.reached.ops before.reached.makes) c.end_rescue.ensures.stops

pub returns-in-Ok-End-clause-looks : goal.returns-in-Ok-End-clause-looks
returns-in-Ok-End-clause-looks g c = λ model.
    let before = c.loop-kept.invariant in
    let model1 = subst IsTrue (sym before.same.keeps_model) model in
    let looks = rw c.in-Ok-End.field-0-is at c.in-Ok-End.ensures.looks model1 in
    looks_on _ _ _ (before.looks model) looks

pub returns-in-Ok-End-clause-found : goal.returns-in-Ok-End-clause-found
returns-in-Ok-End-clause-found g c = λ model payloads has.
    let before = c.loop-kept.invariant in
    let model1 = subst IsTrue (sym before.same.keeps_model) model in
    let far = before.reached.so_far model payloads has in
    let none = rw c.in-Ok-End.field-0-is at (c.in-Ok-End.ensures.given model1 (codes_of before.reached.ops) far.left far.given) in
    let reported = rw c.in-Ok-End.field-0-is at c.in-Ok-End.ensures.on in
    inl (c.loop-kept-test.true, found_whole c.args.front c.loop-kept.front c.loop-kept.sheet c.loop-kept.kept c.in-Ok-End.disk c.in-Ok-End.damage payloads before.reached has far none reported)

pub returns-in-Err-clause-looks : goal.returns-in-Err-clause-looks
returns-in-Err-clause-looks g c = λ model.
    let before = c.loop-kept.invariant in
    let model1 = subst IsTrue (sym before.same.keeps_model) model in
    looks_on _ _ _ (before.looks model) (c.in-Err.ensures.looks model1)

pub returns-clause-found : goal.returns-clause-found
returns-clause-found g c = λ model payloads has.
    let before = c.loop-kept.invariant in
    let far = before.reached.so_far model payloads has in
    enough_given c.args.front c.loop-kept.front c.loop-kept.sheet c.loop-kept.kept c.args.count c.into_disk-2.result payloads before.reached has far (omega (arith, c.loop-kept-test.false, before.most))

pub loop-kept-preserved : goal.loop-kept-preserved
loop-kept-preserved g c =
    let before = c.loop-kept.invariant in
    let on = rw c.in-Ok-Payload.field-0-is at c.in-Ok-Payload.ensures.on in
    let same = rw c.in-Ok-Payload.field-0-is at c.in-Ok-Payload.ensures.same in
    let looks = rw c.in-Ok-Payload.field-0-is at c.in-Ok-Payload.ensures.looks in
    let steady = rw c.in-Ok-Payload.field-0-is at c.in-Ok-Payload.ensures.steady in
    let takes = c.in_default.ensures.taken before.reached.ops before.reached.makes in
    record {
      before = on.3;
      most = omega (arith, c.loop-kept-test.true);
      same = record {
        room = same.room ∙ before.same.room;
        keeps_model = same.keeps_model ∙ before.same.keeps_model;
        later = omega (arith, same.later, before.same.later);
      };
      steady = steady ∙ before.steady;
      looks = λ model. looks_on _ _ _ (before.looks model) (looks (subst IsTrue (sym before.same.keeps_model) model));
      reached = record {
        ops = before.reached.ops ++ takes.next ∷ [];
        makes = takes.makes;
        count = omega (arith, before.reached.count, length-append before.reached.ops (takes.next ∷ []));
        damaged = on.5 ∙ before.reached.damaged;
        so_far = λ model payloads has.
            let far = before.reached.so_far model payloads has in
            let next = rw c.in-Ok-Payload.field-0-is at (c.in-Ok-Payload.ensures.given (subst IsTrue (sym before.same.keeps_model) model) (codes_of before.reached.ops) far.left far.given) in
            left_beyond c.loop-kept.front c.in-Ok-Payload.following before.reached.ops payloads c.in-Ok-Payload.payload.bytes c.take.new.sheet.contents far next takes;
      };
    }
