use Rattle.std.proofs.Common.{◌≡◌, inr, ℕ, rules, ap, sym, ◌∙◌, refl, Ok, Err}
use Rattle.worksheet.specs.declared.op.Op.TheVariants as op
use Rattle.recovery.specs.declared.fault.PrepareFault.TheVariants as faults
use Rattle.session_engine.specs.World.{fits_in}
use Rattle.session_engine.proofs.Asking.{unfit, fits_unless, refused_queue, refused_full, not_refused}
use Rattle.session_engine.proofs.engine.Engine.prepare_clear.Goals as goal

pub returns-in-Err-clause-err : goal.returns-in-Err-clause-err
returns-in-Err-clause-err g c = λ w h is. refused_queue w c.args.id c.args.name c.in-Err.refusal is (sym (c.in-Err.ensures w h))

pub returns-in-Ok-clause-ok : goal.returns-in-Ok-clause-ok
returns-in-Ok-clause-ok g c = λ w h is.
    let o = op.Clear c.args.id in
    let store = c.args.self.now.store in
    let f = fits_unless store.disk.room store.end o (λ no. let full : Ok c.in-Ok.frame ≡ Err faults.Full = c.in-Ok.ensures.full.1 (h.still_open, no) in cc) in
    not_refused w c.args.id c.args.name is (sym (c.in_default.ensures w h)) (ap (λ (k : ℕ). fits_in k w.end o) (sym h.room) ∙ ap (λ (k : ℕ). fits_in store.disk.room k o) (sym h.end) ∙ f)

pub returns-in-Err-Full-clause-err : goal.returns-in-Err-Full-clause-err
returns-in-Err-Full-clause-err g c = λ w h is.
    let o = op.Clear c.args.id in
    let store = c.args.self.now.store in
    let e = c.prepare-prepared.ensures.full.0 (search rules) in
    refused_full w c.args.id c.args.name is (sym (c.in_default.ensures w h)) (ap (λ (k : ℕ). fits_in k w.end o) (sym h.room) ∙ ap (λ (k : ℕ). fits_in store.disk.room k o) (sym h.end) ∙ unfit store.disk.room store.end o e.1)

pub returns-in-Err-OutOfMemory-clause-err : goal.returns-in-Err-OutOfMemory-clause-err
returns-in-Err-OutOfMemory-clause-err g c = λ w h is.
    let o = op.Clear c.args.id in
    let store = c.args.self.now.store in
    let f = fits_unless store.disk.room store.end o (λ no. let full = c.prepare-prepared.ensures.full.1 (h.still_open, no) in let no : ⊥ = search rules in no) in
    inr (not_refused w c.args.id c.args.name is (sym (c.in_default.ensures w h)) (ap (λ (k : ℕ). fits_in k w.end o) (sym h.room) ∙ ap (λ (k : ℕ). fits_in store.disk.room k o) (sym h.end) ∙ f), refl)
