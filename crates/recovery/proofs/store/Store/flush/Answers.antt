use Rattle.std.proofs.Common.{◌≡◌, List, Some, Option, false, sym, subst, ◌∙◌}
use Rattle.std.specs.Prelude.{OnOk}
use Rattle.disk_model.specs.Disk.{InModel, Leaves, LeavesOnly, SameDisk}
use Rattle.worksheet.specs.Contents.{Contents}
use Rattle.worksheet.specs.declared.op.Op.{Op}
use Rattle.recovery.specs.Sheets.{IsSheetImage, IsSheetOf, IsStore, KeepsOps, StoreView}
use Rattle.recovery.specs.declared.base.Base.{Base}
use Rattle.recovery.specs.inside.Base.{IsStoreOf, disk_in, disk_of, is_closed_store, real_in, real_of, store_on}
use Rattle.recovery.proofs.Kept.{is_store}
use Rattle.recovery.proofs.Owed.{flushed_base, flushed_disk, flushed_images, flushed_keeps, flushed_moments}
use Rattle.recovery.proofs.store.Store.flush.Goals as goal

pub invariant_of-self : goal.invariant_of-self
invariant_of-self g c =
    let view = g.D.Disk.view in
    let sheet = c.self.inside.sheet.contents in
    let e : c.self.inside.base ≡ Some c.unwrap-old.result = sym c.take.ensures.value ∙ c.unwrap-old.ensures in
    let holds = subst (λ (b : Option (Base g.row.D.Denot)). IsStoreOf view b sheet) e c.self.invariant in
    let opened = subst (λ (b : Option (Base g.row.D.Denot)). is_closed_store b ≡ false) e (subst (λ (s : StoreView). s.closed ≡ false) (sym c.self.view_is) c.requires) in
    flushed_base view c.unwrap-old.result c.flush-base.result.0 sheet c.flush-base.result.1 holds opened c.flush-base.ensures.same c.flush-base.ensures.ok c.flush-base.ensures.closed c.flush-base.ensures.keeps
    c.flush-base.ensures.owing

pub returns-clause-store : goal.returns-clause-store
returns-clause-store g c = subst IsStore c.self.view_is (is_store g.D.Disk.view c.self.inside.base c.self.inside.sheet c.self.invariant)

pub returns-clause-kept : goal.returns-clause-kept
returns-clause-kept g c =
    let view = g.D.Disk.view in
    let sheet = c.self.inside.sheet in
    let r = c.flush-base.result.1 in
    let new = store_on view (Some c.flush-base.result.0) sheet in
    let e : c.self.inside.base ≡ Some c.unwrap-old.result = sym c.take.ensures.value ∙ c.unwrap-old.ensures in
    let opened = subst (λ (b : Option (Base g.row.D.Denot)). is_closed_store b ≡ false) e (subst (λ (s : StoreView). s.closed ≡ false) (sym c.self.view_is) c.requires) in
    subst (λ (s : StoreView). InModel s.disk ((ops : List Op) → KeepsOps s ops → OnOk r (KeepsOps new ops))) c.self.view_is
    (subst (λ (b : Option (Base g.row.D.Denot)). InModel (disk_in view b) ((ops : List Op) → KeepsOps (store_on view b sheet) ops → OnOk r (KeepsOps new ops))) (sym e)
    (flushed_keeps view c.unwrap-old.result c.flush-base.result.0 sheet r opened c.flush-base.ensures.ok c.flush-base.ensures.keeps))

pub returns-clause-any_moment : goal.returns-clause-any_moment
returns-clause-any_moment g c =
    let view = g.D.Disk.view in
    let sheet = c.self.inside.sheet.contents in
    let new = (real_of view c.flush-base.result.0).history in
    let e : c.self.inside.base ≡ Some c.unwrap-old.result = sym c.take.ensures.value ∙ c.unwrap-old.ensures in
    let holds = subst (λ (b : Option (Base g.row.D.Denot)). IsStoreOf view b sheet) e c.self.invariant in
    let opened = subst (λ (b : Option (Base g.row.D.Denot)). is_closed_store b ≡ false) e (subst (λ (s : StoreView). s.closed ≡ false) (sym c.self.view_is) c.requires) in
    subst (λ (s : StoreView). InModel s.disk ((before : Contents) → Leaves (IsSheetImage before) s.real.history.now → LeavesOnly (IsSheetOf before s.sheet.contents) s.real.history new)) c.self.view_is
    (subst (λ (b : Option (Base g.row.D.Denot)). InModel (disk_in view b) ((before : Contents) → Leaves (IsSheetImage before) (real_in view b).history.now → LeavesOnly (IsSheetOf before sheet) (real_in view b).history new)) (sym e)
    (flushed_moments view c.unwrap-old.result sheet new holds opened c.room-room.ensures.content_stays c.flush-base.ensures.any_moment))

pub returns-clause-acknowledged : goal.returns-clause-acknowledged
returns-clause-acknowledged g c =
    let view = g.D.Disk.view in
    let e : c.self.inside.base ≡ Some c.unwrap-old.result = sym c.take.ensures.value ∙ c.unwrap-old.ensures in
    let opened = subst (λ (b : Option (Base g.row.D.Denot)). is_closed_store b ≡ false) e (subst (λ (s : StoreView). s.closed ≡ false) (sym c.self.view_is) c.requires) in
    flushed_images view c.unwrap-old.result c.flush-base.result.0 c.self.inside.sheet.contents c.flush-base.result.1 opened (invariant_of-self g c) c.flush-base.ensures.ok

pub returns-clause-owed : goal.returns-clause-owed
returns-clause-owed g c =
    let view = g.D.Disk.view in
    let e : c.self.inside.base ≡ Some c.unwrap-old.result = sym c.take.ensures.value ∙ c.unwrap-old.ensures in
    subst (λ (s : StoreView). SameDisk s.disk (disk_of view c.flush-base.result.0)) c.self.view_is
    (subst (λ (b : Option (Base g.row.D.Denot)). SameDisk (disk_in view b) (disk_of view c.flush-base.result.0)) (sym e) (flushed_disk view c.unwrap-old.result c.flush-base.result.0 c.flush-base.ensures.same))
