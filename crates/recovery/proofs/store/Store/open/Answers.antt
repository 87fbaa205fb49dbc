use Rattle.std.proofs.Common.{refl, sym, subst, IsTrue, Some, List, ℕ}
use Rattle.disk_model.specs.inside.Moments.{looks_on}
use Rattle.journal.specs.Kept.{ImageStandsFor}
use Rattle.disk_model.specs.Disk.{bytes_on}
use Rattle.recovery.specs.Sheets.{codes_of}
use Rattle.recovery.specs.declared.base.Base.TheVariants.{Open}
use Rattle.recovery.proofs.Images.{all_images, not_refused, same_sheet}
use Rattle.recovery.proofs.Kept.{is_store, keeps_taken}
use Rattle.recovery.proofs.store.Store.open.Goals as goal

pub returns-in-Err-clause-exact : goal.returns-in-Err-clause-exact
returns-in-Err-clause-exact g c = λ model sheet image. c.in-Err.ensures.exact model (codes_of image.ops) image.stands

pub returns-in-Err-take_all-clause-exact : goal.returns-in-Err-take_all-clause-exact
returns-in-Err-take_all-clause-exact g c = λ model sheet image.
    let model1 = subst IsTrue (sym c.in-Ok.ensures.same.keeps_model) model in
    let has = c.in-Ok.ensures.exact model (codes_of image.ops) image.stands in
    not_refused image.ops sheet c.in-Err-take_all.fault.cause image.makes (c.in-Err-take_all.ensures.refused model1 (codes_of image.ops) has)

pub returns-in-Err-take_all-clause-looks : goal.returns-in-Err-take_all-clause-looks
returns-in-Err-take_all-clause-looks g c = λ model.
    let model1 = subst IsTrue (sym c.in-Ok.ensures.same.keeps_model) model in
    looks_on _ _ _ (c.in-Ok.ensures.looks model) (c.in-Err-take_all.ensures.looks model1)

pub returns-in-Ok-take_all-clause-looks : goal.returns-in-Ok-take_all-clause-looks
returns-in-Ok-take_all-clause-looks g c = λ model.
    let model1 = subst IsTrue (sym c.in-Ok.ensures.same.keeps_model) model in
    looks_on _ _ _ (c.in-Ok.ensures.looks model) (c.in-Ok-take_all.ensures.looks model1)

pub returns-in-Ok-take_all-clause-exact : goal.returns-in-Ok-take_all-clause-exact
returns-in-Ok-take_all-clause-exact g c = λ model sheet image.
    let model1 = subst IsTrue (sym c.in-Ok.ensures.same.keeps_model) model in
    let has = c.in-Ok.ensures.exact model (codes_of image.ops) image.stands in
    let taken = c.in-Ok-take_all.ensures.taken model1 (codes_of image.ops) has in
    same_sheet taken.ops image.ops c.in-Ok-take_all.sheet.contents sheet taken.makes image.makes (sym taken.are)

pub returns-in-Ok-take_all-clause-sheet : goal.returns-in-Ok-take_all-clause-sheet
returns-in-Ok-take_all-clause-sheet g c = λ model.
    let model1 = subst IsTrue (sym c.in-Ok.ensures.same.keeps_model) model in
    let found = c.in-Ok.ensures.found model in
    let taken = c.in-Ok-take_all.ensures.taken model1 found.0 found.2 in
    record {
      ops = taken.ops;
      stands = subst (λ (l : List (List ℕ)). ImageStandsFor (bytes_on (g.D.Disk.view c.args.disk)) l) taken.are found.1;
      makes = taken.makes;
    }

pub invariant_of-result : goal.invariant_of-result
invariant_of-result g c = record {
  owing = tt;
  made = c.in-Ok-take_all.ensures.made;
  kept = λ opened model2.
      let model1 = subst IsTrue c.in-Ok-take_all.ensures.same.keeps_model model2 in
      let found = c.in-Ok.ensures.found (subst IsTrue c.in-Ok.ensures.same.keeps_model model1) in
      keeps_taken c.in-Ok-take_all.journal c.in-Ok-take_all.sheet.contents found.0 (c.in-Ok-take_all.ensures.taken model1 found.0 found.2);
}

pub returns-in-Ok-take_all-clause-store : goal.returns-in-Ok-take_all-clause-store
returns-in-Ok-take_all-clause-store g c = is_store g.D.Disk.view (Some (Open c.in-Ok-take_all.journal)) c.in-Ok-take_all.sheet (record {
  owing = tt;
  made = c.in-Ok-take_all.ensures.made;
  kept = λ opened model2.
      let model1 = subst IsTrue c.in-Ok-take_all.ensures.same.keeps_model model2 in
      let found = c.in-Ok.ensures.found (subst IsTrue c.in-Ok.ensures.same.keeps_model model1) in
      keeps_taken c.in-Ok-take_all.journal c.in-Ok-take_all.sheet.contents found.0 (c.in-Ok-take_all.ensures.taken model1 found.0 found.2);
})

pub returns-in-Ok-take_all-clause-kept : goal.returns-in-Ok-take_all-clause-kept
returns-in-Ok-take_all-clause-kept g c = λ model.
    let model1 = subst IsTrue (sym c.in-Ok.ensures.same.keeps_model) model in
    let found = c.in-Ok.ensures.found model in
    let kept = keeps_taken {D = g.row.D.Denot} c.in-Ok-take_all.journal c.in-Ok-take_all.sheet.contents found.0 (c.in-Ok-take_all.ensures.taken model1 found.0 found.2) in
    (kept.ops, record { still_open = refl; keeps = kept.keeps; makes = kept.makes })

pub returns-in-Ok-take_all-clause-images : goal.returns-in-Ok-take_all-clause-images
returns-in-Ok-take_all-clause-images g c = λ model.
    let model1 = subst IsTrue (sym c.in-Ok.ensures.same.keeps_model) model in
    let found = c.in-Ok.ensures.found model in
    all_images g.D.Disk.view (Open c.in-Ok-take_all.journal) c.in-Ok-take_all.sheet.contents
    (keeps_taken c.in-Ok-take_all.journal c.in-Ok-take_all.sheet.contents found.0 (c.in-Ok-take_all.ensures.taken model1 found.0 found.2))
