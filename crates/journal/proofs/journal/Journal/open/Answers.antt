use Rattle.std.proofs.Common.{◌≡◌, List, ℕ, [], ◌∷◌, ◌++◌, ap, sym, subst, ◌∙◌}
use Rattle.disk_model.specs.Disk.{DiskView, Looks}
use Rattle.disk_model.specs.inside.Moments.{looks_on}
use Rattle.journal.specs.Area.{first_gate}
use Rattle.journal.specs.Opening.{HasGiven}
use Rattle.journal.specs.Payloads.{payloads_in, AreGates}
use Rattle.journal.specs.declared.walk.Payload.{Payload}
use Rattle.journal.proofs.Givens.{AreGates-push, payloads_in-push}
use Rattle.journal.proofs.Readings.{keeps, reads_on, untroubled}
use Rattle.journal.proofs.Unique.{given}
use Rattle.journal.proofs.journal.Journal.open.Goals as goal

pub returns-in-Err-push-clause-looks : goal.returns-in-Err-push-clause-looks
returns-in-Err-push-clause-looks g c = λ model.
    let before = c.loop-following.invariant.reads in
    let looks = rw c.in-Ok-Payload.field-0-is at c.in-Ok-Payload.ensures.looks (keeps ⊥ _ _ before model) in
    subst (λ (d : DiskView). Looks (g.D.Disk.view c.args.disk).history d.history) (sym c.into_disk-disk.ensures) (looks_on _ _ _ (before.looks model) looks)

pub returns-in-Ok-End-clause-looks : goal.returns-in-Ok-End-clause-looks
returns-in-Ok-End-clause-looks g c = λ model.
    let before = c.loop-following.invariant.reads in
    let looks = rw c.in-Ok-End.field-0-is at c.in-Ok-End.ensures.looks (keeps ⊥ _ _ before model) in
    looks_on _ _ _ (before.looks model) looks

pub returns-in-Err-next-clause-looks : goal.returns-in-Err-next-clause-looks
returns-in-Err-next-clause-looks g c = λ model.
    let before = c.loop-following.invariant.reads in
    looks_on _ _ _ (before.looks model) (c.in-Err-next.ensures.looks (keeps ⊥ _ _ before model))

pub returns-in-Ok-End-clause-exact : goal.returns-in-Ok-End-clause-exact
returns-in-Ok-End-clause-exact g c = λ model payloads stands.
    let before = c.loop-following.invariant.reads in
    let model1 = keeps ⊥ _ _ before model in
    let so_far = c.loop-following.invariant.given model in
    let all = rw c.in-Ok-End.field-0-is at (c.in-Ok-End.ensures.given model1 _ so_far.0 so_far.1) in
    let looks = rw c.in-Ok-End.field-0-is at c.in-Ok-End.ensures.looks model1 in
    given _ _ _ payloads (looks.content ∙ (before.looks model).content) all.1.stands stands

pub loop-following-preserved : goal.loop-following-preserved
loop-following-preserved g c =
    let before = c.loop-following.invariant.reads in
    let on = rw c.in-Ok-Payload.field-0-is at c.in-Ok-Payload.ensures.on in
    let looks = rw c.in-Ok-Payload.field-0-is at c.in-Ok-Payload.ensures.looks in
    let same = rw c.in-Ok-Payload.field-0-is at c.in-Ok-Payload.ensures.same in
    let steady = rw c.in-Ok-Payload.field-0-is at c.in-Ok-Payload.ensures.steady in
    let ps = c.loop-following.payloads.items in
    let payload = c.in-Ok-Payload.payload in
    let items = sym c.in_default.ensures.items in
    record {
      before = on.3;
      reads = reads_on ⊥ _ _ _ before (untroubled c.loop-following.opening.disk c.in-Ok-Payload.following.disk same looks steady);
      given = λ model.
          let so_far = c.loop-following.invariant.given model in
          let next = rw c.in-Ok-Payload.field-0-is at (c.in-Ok-Payload.ensures.given (keeps ⊥ _ _ before model) (payloads_in ps) so_far.0 so_far.1) in
          let all : payloads_in ps ++ payload.bytes ∷ [] ≡ payloads_in c.push.new.self.items = sym (payloads_in-push ps payload) ∙ ap payloads_in items in
          (next.0, subst (λ (l : List (List ℕ)). HasGiven c.in-Ok-Payload.following l next.0) all next.2);
      gates = λ model.
          let so_far = c.loop-following.invariant.given model in
          subst (λ (l : List Payload). AreGates first_gate l) items
          (AreGates-push ps payload first_gate (c.loop-following.invariant.gates model) (on.0 ∙ so_far.1.gate_is));
    }
