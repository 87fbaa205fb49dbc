use Rattle.std.proofs.Common.{◌≡◌, Some, Option, false, sym, ap, subst, ◌∙◌}
use Rattle.recovery.specs.Sheets.{StoreView}
use Rattle.recovery.specs.declared.base.Base.{Base}
use Rattle.recovery.specs.inside.Base.{IsStoreOf, is_closed_store, owed_in}
use Rattle.recovery.proofs.Owed.{some_of, still_of}
use Rattle.recovery.proofs.store.Store.gather.Goals as goal

pub invariant_of-self : goal.invariant_of-self
invariant_of-self g c =
    let view = g.D.Disk.view in
    let sheet = c.self.inside.sheet.contents in
    let e : c.self.inside.base ≡ Some c.unwrap.result = sym c.take.ensures.value ∙ c.unwrap.ensures in
    let holds = subst (λ (b : Option (Base g.row.D.Denot)). IsStoreOf view b sheet) e c.self.invariant in
    still_of view c.unwrap.result c.gather-base.result sheet holds c.gather-base.ensures.closed c.gather-base.ensures.disk c.gather-base.ensures.keeps
    (c.gather-base.ensures.owing holds.owing (λ opened. some_of view c.unwrap.result sheet holds opened))

pub returns-clause-owed : goal.returns-clause-owed
returns-clause-owed g c =
    let e : c.self.inside.base ≡ Some c.unwrap.result = sym c.take.ensures.value ∙ c.unwrap.ensures in
    c.gather-base.ensures.owed ∙ ap (λ (b : Option (Base g.row.D.Denot)). owed_in b) (sym e) ∙ ap (λ (s : StoreView). s.owed) c.self.view_is

pub returns-clause-gathers : goal.returns-clause-gathers
returns-clause-gathers g c = λ opened.
    let e : c.self.inside.base ≡ Some c.unwrap.result = sym c.take.ensures.value ∙ c.unwrap.ensures in
    c.gather-base.ensures.gathers (subst (λ (b : Option (Base g.row.D.Denot)). is_closed_store b ≡ false) e (subst (λ (s : StoreView). s.closed ≡ false) (sym c.self.view_is) opened))
