use Rattle.std.proofs.Common.{◌≡◌, List, ℕ, false, sym, subst}
use Rattle.std.specs.Prelude.{OnOk}
use Rattle.disk_model.specs.Disk.{InModel, LeavesOnly}
use Rattle.journal.specs.Kept.{EitherStands}
use Rattle.recovery.specs.declared.base.Base.{Base}
use Rattle.recovery.specs.inside.Base.{KeepsIn, RealKeeps, disk_of, is_closed, real_of}
use Rattle.recovery.proofs.base.Base.flush.Goals as goal

pub returns-in-Gathering-clause-keeps : goal.returns-in-Gathering-clause-keeps
returns-in-Gathering-clause-keeps g c =
    subst (λ (b : Base g.row.D.Denot). OnOk c.write_group.result.1 (InModel (disk_of g.D.Disk.view b) ((payloads : List (List ℕ)) → KeepsIn b payloads → KeepsIn c.write_group.result.0 payloads))) (sym c.in-Gathering.is) c.write_group.ensures.keeps

pub returns-in-Gathering-clause-any_moment : goal.returns-in-Gathering-clause-any_moment
returns-in-Gathering-clause-any_moment g c =
    subst (λ (b : Base g.row.D.Denot). InModel (disk_of g.D.Disk.view b) (is_closed b ≡ false → (before payloads : List (List ℕ)) → RealKeeps b before → KeepsIn b payloads
    → LeavesOnly (EitherStands before payloads) (real_of g.D.Disk.view b).history (real_of g.D.Disk.view c.write_group.result.0).history)) (sym c.in-Gathering.is)
    (λ model opened before payloads real keeps. c.write_group.ensures.any_moment model before payloads real keeps)
