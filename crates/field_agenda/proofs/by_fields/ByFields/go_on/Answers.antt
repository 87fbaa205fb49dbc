use Rattle.std.proofs.Common.{List, ℕ, ap, refl, subst}
use Rattle.std.specs.Prelude.{Ok}
use Rattle.field_agenda.specs.Says.{IsLateNow, NoneLate, interrupts}
use Rattle.field_agenda.proofs.Choices.{watched}
use Rattle.field_agenda.proofs.by_fields.ByFields.go_on.Goals as goal

pub returns-in-Some : goal.returns-in-Some
returns-in-Some g c = λ w h none.
    let a = c.args.self.now in
    let late = c.in-Some.late in
    interrupts late.place late.id c.requires.held none (subst (λ (l : List ℕ). IsLateNow l a.stand w c.args.now late.place late.id) c.as_slice.ensures
    (c.in-Some.ensures.some w h)) (ap Ok (c.warn.ensures.action w h)) c.warn.ensures.stands

pub returns-in-None : goal.returns-in-None
returns-in-None g c = λ w h none.
    let a = c.args.self.now in
    watched a c.watch.new.self w c.args.now c.watch.result c.requires.held none
    (subst (λ (l : List ℕ). NoneLate l a.stand w c.args.now) c.as_slice.ensures (c.in-None.ensures.none w h refl)) c.watch.ensures
