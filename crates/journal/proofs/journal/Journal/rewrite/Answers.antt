use Rattle.std.proofs.Common.{◌≡◌, ℕ, IsTrue, ap, sym, subst}
use Rattle.disk_model.specs.Disk.{DiskView}
use Rattle.journal.specs.Kept.{JournalView, Keeps}
use Rattle.journal.proofs.journal.Journal.rewrite.Goals as goal

pub returns-clause-ok : goal.returns-clause-ok
returns-clause-ok g c = λ model payloads keeps.
    let seen : g.D.Disk.view c.self.inside.disk ≡ c.args.self.disk = ap (λ (j : JournalView). j.disk) c.self.view_is in
    let model1 = subst (λ (d : DiskView). IsTrue d.keeps_model) (sym seen) model in
    let keeps1 = subst (λ (d : DiskView). Keeps d.history c.args.self.end payloads) (sym seen) keeps in
    subst (λ (n : ℕ). Keeps (g.D.Disk.view c.write_again.new.disk).history n c.args.frames.now) (sym c.in-Some.ensures.some.0)
    (c.in_default-write_again.ensures.acknowledged model1 c.args.self.end payloads keeps1)
