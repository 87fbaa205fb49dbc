use Rattle.std.proofs.Common.{◌≡◌, false, List, subst}
use Rattle.disk_model.specs.Disk.{InModel}
use Rattle.worksheet.specs.declared.op.Op.{Op}
use Rattle.recovery.specs.Sheets.{StoreView, IsStore, KeepsOps, Makes}
use Rattle.recovery.proofs.Images.{made_in}
use Rattle.recovery.proofs.Kept.{is_store, some_kept}
use Rattle.recovery.proofs.store.Store.sheet.Goals as goal

pub returns-clause-made : goal.returns-clause-made
returns-clause-made g c =
    subst (λ (s : StoreView). (ops : List Op) × Makes ops s.sheet.contents) c.self.view_is
    (made_in g.D.Disk.view c.self.inside.base c.self.inside.sheet.contents c.self.invariant)

pub returns-clause-kept : goal.returns-clause-kept
returns-clause-kept g c =
    subst (λ (s : StoreView). InModel s.disk (s.closed ≡ false → (ops : List Op) × KeepsOps s ops)) c.self.view_is
    (some_kept g.D.Disk.view c.self.inside.base c.self.inside.sheet c.self.invariant)

pub returns-clause-store : goal.returns-clause-store
returns-clause-store g c = subst IsStore c.self.view_is (is_store g.D.Disk.view c.self.inside.base c.self.inside.sheet c.self.invariant)

pub returns-clause-images : goal.returns-clause-images
returns-clause-images g c = (subst IsStore c.self.view_is (is_store g.D.Disk.view c.self.inside.base c.self.inside.sheet c.self.invariant)).images
