use Rattle.std.proofs.Common.{sym, subst, IsTrue}
use Rattle.disk_model.specs.Disk.{DiskView, LeavesOnly}
use Rattle.journal.specs.Kept.{Keeps}
use Rattle.recovery.specs.inside.Rescuing.{IsBeingLaid}
use Rattle.recovery.proofs.Saves.{being_created, being_laid}
use Rattle.recovery.proofs.saving.lay_again.Goals as goal

pub returns-in-Err-clause-any_moment : goal.returns-in-Err-clause-any_moment
returns-in-Err-clause-any_moment g c = λ model.
    being_created (g.S.Source.payloads c.args.source.now) _ _ (c.in-Err.ensures.any_moment model)

pub returns-in-Ok-rewrite_from-clause-ok : goal.returns-in-Ok-rewrite_from-clause-ok
returns-in-Ok-rewrite_from-clause-ok g c = λ model.
    let created = c.in-Ok.ensures.empty model in
    let model1 = subst IsTrue (sym c.in-Ok.ensures.same.keeps_model) model in
    let keeps = c.in-Ok-rewrite_from.ensures.ok model1 _ created.1 in
    (created.0, (c.in-Ok-rewrite_from.journal.end, subst (λ (d : DiskView). Keeps d.history c.in-Ok-rewrite_from.journal.end (g.S.Source.payloads c.args.source.now)) (sym c.into_disk.ensures) keeps))

pub returns-in-Ok-rewrite_from-clause-any_moment : goal.returns-in-Ok-rewrite_from-clause-any_moment
returns-in-Ok-rewrite_from-clause-any_moment g c = λ model.
    let created = c.in-Ok.ensures.empty model in
    let model1 = subst IsTrue (sym c.in-Ok.ensures.same.keeps_model) model in
    let run = being_laid (g.S.Source.payloads c.args.source.now) _ _ _ (c.in-Ok.ensures.any_moment model) (c.in-Ok-rewrite_from.ensures.any_moment model1 _ created.1) in
    subst (λ (d : DiskView). LeavesOnly (IsBeingLaid (g.D.Disk.view c.args.disk).history.now (g.S.Source.payloads c.args.source.now)) (g.D.Disk.view c.args.disk).history d.history) (sym c.into_disk.ensures) run

pub returns-in-Err-Disk-clause-any_moment : goal.returns-in-Err-Disk-clause-any_moment
returns-in-Err-Disk-clause-any_moment g c = λ model.
    let created = c.in-Ok.ensures.empty model in
    let model1 = subst IsTrue (sym c.in-Ok.ensures.same.keeps_model) model in
    let moments = rw c.in-Err-Disk.field-0-is at (c.in-Err-Disk.ensures.any_moment model1 _ created.1) in
    being_laid (g.S.Source.payloads c.args.source.now) _ _ _ (c.in-Ok.ensures.any_moment model) moments
