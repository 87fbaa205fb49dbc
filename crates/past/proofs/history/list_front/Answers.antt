use Rattle.std.proofs.Common.{◌≡◌, ◌++◌, ◌∷◌, ◌+◌, [], sym, ◌∙◌, refl, rules, subst, arith, length-append, IsTrue}
use Rattle.std.specs.Prelude.{Result}
use Rattle.std.specs.Io.KnownBytes.{Appends}
use Rattle.disk_model.specs.Disk.{DiskView, Looks, bytes_on}
use Rattle.disk_model.specs.inside.Moments.{looks_on}
use Rattle.offline_programs.specs.declared.fault.RunFault.{RunFault}
use Rattle.past.specs.History.{TellsList, change_line, history_text}
use Rattle.past.proofs.Lists.{list_before, list_stopped, list_whole, one_listed}
use Rattle.past.specs.declared.history.Listed.{Listed}
use Rattle.recovery.specs.Sheets.{codes_of}
use Rattle.recovery.proofs.Rescues.{left_beyond}
use Rattle.past.proofs.history.list_front.Goals as goal

pub returns-in-Err-list_one-clause-looks : goal.returns-in-Err-list_one-clause-looks
returns-in-Err-list_one-clause-looks g c = λ model.
    let before = c.loop-following.invariant in
    let model1 = subst IsTrue (sym before.same.keeps_model) model in
    let looks = rw c.in-Ok-Payload.field-0-is at c.in-Ok-Payload.ensures.looks model1 in
    subst (λ (d : DiskView). Looks c.args.front.disk.history d.history) (sym c.into_disk.ensures) (looks_on _ _ _ (before.looks model) looks)

pub returns-in-Err-list_one-clause-listed : goal.returns-in-Err-list_one-clause-listed
returns-in-Err-list_one-clause-listed g c = λ model payloads has.
    let before = c.loop-following.invariant in
    let model1 = subst IsTrue (sym before.same.keeps_model) model in
    let reached = before.listed.reached in
    let far = reached.so_far model payloads has in
    let next = rw c.in-Ok-Payload.field-0-is at (c.in-Ok-Payload.ensures.given model1 (codes_of reached.ops) far.left far.given) in
    let on = rw c.in-Ok-Payload.field-0-is at c.in-Ok-Payload.ensures.on in
    list_before c.args.front c.loop-following.front c.loop-following.sheet.contents c.loop-following.count c.in-Ok-Payload.payload payloads c.in-Err-list_one.fault
    (Appends (g.W.Write.contents c.args.writer.now) (g.W.Write.contents c.list_one.new.writer)) (c.list_one.new.writer ≡ c.args.writer.now) (c.list_one.new.writer ≡ c.loop-following.writer)
    (λ op. Appends (g.W.Write.contents c.loop-following.writer) (g.W.Write.contents c.list_one.new.writer) (change_line (c.loop-following.count + 1) c.loop-following.sheet.contents.next op)) reached has far next.0 next.1 on.0
    (λ same. subst (λ w. Appends (g.W.Write.contents c.args.writer.now) (g.W.Write.contents w) (history_text reached.ops)) (sym same) before.listed.text)
    (λ op line. one_listed _ _ _ reached.ops op c.loop-following.sheet.contents c.loop-following.count reached.count reached.makes.is before.listed.text line)
    (c.in-Err-list_one.ensures.refused reached.ops reached.makes)

pub returns-in-Ok-End-clause-looks : goal.returns-in-Ok-End-clause-looks
returns-in-Ok-End-clause-looks g c = λ model.
    let before = c.loop-following.invariant in
    let model1 = subst IsTrue (sym before.same.keeps_model) model in
    let looks = rw c.in-Ok-End.field-0-is at c.in-Ok-End.ensures.looks model1 in
    looks_on _ _ _ (before.looks model) looks

pub returns-in-Ok-End-clause-listed : goal.returns-in-Ok-End-clause-listed
returns-in-Ok-End-clause-listed g c = λ model payloads has.
    let before = c.loop-following.invariant in
    let model1 = subst IsTrue (sym before.same.keeps_model) model in
    let reached = before.listed.reached in
    let far = reached.so_far model payloads has in
    let none = rw c.in-Ok-End.field-0-is at (c.in-Ok-End.ensures.given model1 (codes_of reached.ops) far.left far.given) in
    let reported = rw c.in-Ok-End.field-0-is at c.in-Ok-End.ensures.on in
    let written = Appends (g.W.Write.contents c.args.writer.now) (g.W.Write.contents c.loop-following.writer) in
    let nothing = c.loop-following.writer ≡ c.args.writer.now in
    subst (λ (r : Result Unit RunFault). TellsList (bytes_on c.args.front.disk) written nothing r) (sym c.whole_or.ensures)
    (list_whole c.args.front c.loop-following.front c.loop-following.sheet.contents c.loop-following.count c.in-Ok-End.damage payloads written nothing reached has far none reported before.listed.text)

pub returns-in-Err-clause-looks : goal.returns-in-Err-clause-looks
returns-in-Err-clause-looks g c = λ model.
    let before = c.loop-following.invariant in
    let model1 = subst IsTrue (sym before.same.keeps_model) model in
    subst (λ (l : Listed g.row.D.Denot). Looks c.args.front.disk.history (g.D.Disk.view l.disk).history) (sym c.not_read.ensures) (looks_on _ _ _ (before.looks model) (c.in-Err.ensures.looks model1))

pub returns-in-Err-clause-listed : goal.returns-in-Err-clause-listed
returns-in-Err-clause-listed g c = λ model payloads has.
    let before = c.loop-following.invariant in
    let reached = before.listed.reached in
    let written = Appends (g.W.Write.contents c.args.writer.now) (g.W.Write.contents c.loop-following.writer) in
    let nothing = c.loop-following.writer ≡ c.args.writer.now in
    subst (λ (l : Listed g.row.D.Denot). TellsList (bytes_on c.args.front.disk) written nothing l.answer) (sym c.not_read.ensures)
    (list_stopped c.args.front c.loop-following.front c.loop-following.sheet.contents c.loop-following.count payloads written nothing c.in-Err.fault.cause reached has
    (reached.so_far model payloads has) before.listed.text c.in-Err.ensures.cause)

pub loop-following-init : goal.loop-following-init
loop-following-init g c = record {
  before = c.requires.end;
  small = c.requires.small;
  counted = search rules;
  same = search rules;
  steady = refl;
  looks = search rules;
  listed = record {
    reached = search rules;
    text = search rules;
  };
}

pub loop-following-preserved : goal.loop-following-preserved
loop-following-preserved g c =
    let before = c.loop-following.invariant in
    let reached = before.listed.reached in
    let on = rw c.in-Ok-Payload.field-0-is at c.in-Ok-Payload.ensures.on in
    let same = rw c.in-Ok-Payload.field-0-is at c.in-Ok-Payload.ensures.same in
    let looks = rw c.in-Ok-Payload.field-0-is at c.in-Ok-Payload.ensures.looks in
    let steady = rw c.in-Ok-Payload.field-0-is at c.in-Ok-Payload.ensures.steady in
    let taken = c.in_default.ensures.taken reached.ops reached.makes in
    let takes = taken.0 in
    record {
      before = on.3;
      small = omega (arith, on.4, before.small);
      counted = omega (arith, on.2, on.1.0, before.counted);
      same = record {
        room = same.room ∙ before.same.room;
        keeps_model = same.keeps_model ∙ before.same.keeps_model;
        later = omega (arith, same.later, before.same.later);
      };
      steady = steady ∙ before.steady;
      looks = λ model. looks_on _ _ _ (before.looks model) (looks (subst IsTrue (sym before.same.keeps_model) model));
      listed = record {
        reached = record {
          ops = reached.ops ++ takes.next ∷ [];
          makes = takes.makes;
          count = omega (arith, reached.count, length-append reached.ops (takes.next ∷ []));
          damaged = on.5 ∙ reached.damaged;
          so_far = λ model payloads has.
              let far = reached.so_far model payloads has in
              let next = rw c.in-Ok-Payload.field-0-is at (c.in-Ok-Payload.ensures.given (subst IsTrue (sym before.same.keeps_model) model) (codes_of reached.ops) far.left far.given) in
              left_beyond c.loop-following.front c.in-Ok-Payload.following reached.ops payloads c.in-Ok-Payload.payload.bytes c.list_one.new.sheet.contents far next takes;
        };
        text = one_listed _ _ _ reached.ops takes.next c.loop-following.sheet.contents c.loop-following.count reached.count reached.makes.is before.listed.text taken.1;
      };
    }
