use Rattle.std.proofs.Common.{◌≡◌, Some, Option, false, sym, subst, ◌∙◌}
use Rattle.disk_model.specs.Disk.{InModel, Leaves}
use Rattle.recovery.specs.Sheets.{IsSheetImage, StoreView}
use Rattle.recovery.specs.declared.base.Base.{Base}
use Rattle.recovery.specs.inside.Base.{IsStoreOf, is_closed_store, real_in}
use Rattle.recovery.proofs.Owed.{withdrawn_base}
use Rattle.recovery.proofs.store.Store.withdraw.Goals as goal

pub invariant_of-self : goal.invariant_of-self
invariant_of-self g c =
    let view = g.D.Disk.view in
    let sheet = c.self.inside.sheet.contents in
    let before = c.args.before.contents in
    let e : c.self.inside.base ≡ Some c.unwrap-old.result = sym c.take.ensures.value ∙ c.unwrap-old.ensures in
    let holds = subst (λ (b : Option (Base g.row.D.Denot)). IsStoreOf view b sheet) e c.self.invariant in
    let opened = subst (λ (b : Option (Base g.row.D.Denot)). is_closed_store b ≡ false) e (subst (λ (s : StoreView). s.closed ≡ false) (sym c.self.view_is) c.requires.open) in
    let images = subst (λ (b : Option (Base g.row.D.Denot)). InModel (real_in view b) (Leaves (IsSheetImage before) (real_in view b).history.now)) e
    (subst (λ (s : StoreView). InModel s.real (Leaves (IsSheetImage before) s.real.history.now)) (sym c.self.view_is) c.requires.images) in
    withdrawn_base view c.unwrap-old.result c.withdraw.result sheet before holds opened c.requires.made c.room-room.ensures.content_stays images c.withdraw.ensures.disk c.withdraw.ensures.keeps c.withdraw.ensures.owing
