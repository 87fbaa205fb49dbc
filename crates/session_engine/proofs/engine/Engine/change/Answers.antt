use Rattle.std.proofs.Common.{◌≡◌, inl, inr, ⊎_elim, ap, ◌∙◌, refl, subst, Option, None}
use Rattle.worksheet.specs.declared.refusal.Refusal.{Refusal}
use Rattle.worksheet.specs.Contents.{Contents}
use Rattle.worksheet.specs.Checks.{first_refusal}
use Rattle.session_engine.specs.Does.{refused}
use Rattle.session_engine.specs.inside.Commits.{Commits}
use Rattle.session_engine.proofs.Standing.{committed, unchanged, fit_in}
use Rattle.session_engine.proofs.engine.Engine.change.Goals as goal

pub returns-in-Ok-None-clause-ok : goal.returns-in-Ok-None-clause-ok
returns-in-Ok-None-clause-ok g c = λ w h spares.
    let store = c.args.self.now.store in
    let o = c.args.op in
    let done = subst (λ (x : Option Refusal). Commits store w.ops o c.commit.new.store x) c.in-Ok-None.field-0-is (c.in-Ok-None.ensures.ok w.ops h.contents) in
    let next = subst (λ (s : Contents). first_refusal s o ≡ None) h.contents c.requires.allowed in
    inl (fit_in store c.args.self.now.lives.items c.args.self.now.begun w o h ∙ done.fits, refl, committed store c.commit.new.store c.args.self.now.lives.items c.args.self.now.begun w o h done c.commit.ensures.same next spares)

pub returns-in-Ok-Some-clause-ok : goal.returns-in-Ok-Some-clause-ok
returns-in-Ok-Some-clause-ok g c = λ w h spares.
    let store = c.args.self.now.store in
    let o = c.args.op in
    let done = subst (λ (x : Option Refusal). Commits store w.ops o c.commit.new.store x) c.in-Ok-Some.field-0-is (c.in-Ok-Some.ensures.ok w.ops h.contents) in
    let still = unchanged store c.commit.new.store c.args.self.now.lives.items c.args.self.now.begun w h done.same in
    let fit = fit_in store c.args.self.now.lives.items c.args.self.now.begun w o h in
    ⊎_elim (λ no. inr (inl (fit ∙ no.1, c.refused.ensures ∙ ap refused no.0, still, done.same.disk)))
    (λ want. inr (inr (fit ∙ want.1, c.refused.ensures ∙ ap refused want.0, still, done.same.disk))) done.cause

pub returns-in-Err-clause-fits : goal.returns-in-Err-clause-fits
returns-in-Err-clause-fits g c = λ w h. fit_in c.args.self.now.store c.args.self.now.lives.items c.args.self.now.begun w c.args.op h ∙ c.in-Err.ensures.fits
