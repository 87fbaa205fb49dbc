use Rattle.std.proofs.Common.{◌≡◌, ◌≤◌, ◌++◌, ◌∷◌, [], sym, ◌∙◌, subst, arith, IsTrue}
use Rattle.disk_model.specs.Disk.{DiskView, Looks, SameDisk}
use Rattle.disk_model.specs.inside.Moments.{looks_on}
use Rattle.journal.specs.Opening.{OpeningView}
use Rattle.recovery.specs.Sheets.{codes_of}
use Rattle.recovery.proofs.Taking.{Left, left_on, refused_here}
use Rattle.recovery.proofs.opening.take_all.Goals as goal

pub returns-in-Err-take-clause-looks : goal.returns-in-Err-take-clause-looks
returns-in-Err-take-clause-looks g c = λ model.
    let before = c.loop-following.invariant in
    let model1 = subst IsTrue (sym before.same.keeps_model) model in
    let looks = rw c.in-Ok-Payload.field-0-is at c.in-Ok-Payload.ensures.looks model1 in
    subst (λ (d : DiskView). Looks c.args.opening.disk.history d.history) (sym c.into_disk-disk.ensures) (looks_on _ _ _ (before.looks model) looks)

pub returns-in-Err-take-clause-refused : goal.returns-in-Err-take-clause-refused
returns-in-Err-take-clause-refused g c = λ model payloads has.
    let before = c.loop-following.invariant in
    let model1 = subst IsTrue (sym before.same.keeps_model) model in
    let far = before.reached.so_far model payloads has in
    let next = rw c.in-Ok-Payload.field-0-is at (c.in-Ok-Payload.ensures.given model1 (codes_of before.reached.ops) far.left far.given) in
    let on = rw c.in-Ok-Payload.field-0-is at c.in-Ok-Payload.ensures.on in
    refused_here c.loop-following.opening before.reached.ops payloads c.in-Ok-Payload.payload c.loop-following.sheet.contents c.in-Err-take.cause far next.0 next.1 on.0 before.reached.makes
    (c.in-Err-take.ensures.refused before.reached.ops before.reached.makes)

pub returns-in-Ok-End-clause-looks : goal.returns-in-Ok-End-clause-looks
returns-in-Ok-End-clause-looks g c = λ model.
    let before = c.loop-following.invariant in
    let model1 = subst IsTrue (sym before.same.keeps_model) model in
    let looks = rw c.in-Ok-End.field-0-is at c.in-Ok-End.ensures.looks model1 in
    looks_on _ _ _ (before.looks model) looks

pub returns-in-Err-clause-looks : goal.returns-in-Err-clause-looks
returns-in-Err-clause-looks g c = λ model.
    let before = c.loop-following.invariant in
    let model1 = subst IsTrue (sym before.same.keeps_model) model in
    looks_on _ _ _ (before.looks model) (c.in-Err.ensures.looks model1)

pub loop-following-preserved : goal.loop-following-preserved
loop-following-preserved g c =
    let before = c.loop-following.invariant in
    let on = rw c.in-Ok-Payload.field-0-is at c.in-Ok-Payload.ensures.on in
    let same = rw c.in-Ok-Payload.field-0-is at c.in-Ok-Payload.ensures.same in
    let looks = rw c.in-Ok-Payload.field-0-is at c.in-Ok-Payload.ensures.looks in
    let steady = rw c.in-Ok-Payload.field-0-is at c.in-Ok-Payload.ensures.steady in
    let takes = c.in_default.ensures.taken before.reached.ops before.reached.makes in
    let kept = sym c.reuse.ensures in
    let old = c.args.opening.disk in
    record {
      before = subst (λ (o : OpeningView). o.gate ≤ o.end) kept on.3;
      same = subst (λ (o : OpeningView). SameDisk old o.disk) kept (record {
        room = same.room ∙ before.same.room;
        keeps_model = same.keeps_model ∙ before.same.keeps_model;
        later = omega (arith, same.later, before.same.later);
      });
      steady = subst (λ (o : OpeningView). o.disk.faults ≡ old.faults) kept (steady ∙ before.steady);
      looks = λ model. subst (λ (o : OpeningView). Looks old.history o.disk.history) kept (looks_on _ _ _ (before.looks model) (looks (subst IsTrue (sym before.same.keeps_model) model)));
      reached = record {
        ops = before.reached.ops ++ takes.next ∷ [];
        makes = takes.makes;
        so_far = λ model payloads has.
            let far = before.reached.so_far model payloads has in
            let next = rw c.in-Ok-Payload.field-0-is at (c.in-Ok-Payload.ensures.given (subst IsTrue (sym before.same.keeps_model) model) (codes_of before.reached.ops) far.left far.given) in
            subst (λ (o : OpeningView). Left o (before.reached.ops ++ takes.next ∷ []) payloads) kept
            (left_on c.loop-following.opening c.in-Ok-Payload.following before.reached.ops payloads c.in-Ok-Payload.payload.bytes c.take.new.sheet.contents far next takes);
      };
    }
