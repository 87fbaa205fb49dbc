use Rattle.std.proofs.Common.{arith, sym, subst}
use Rattle.disk_model.specs.Disk.{LeavesOnly, bytes_on}
use Rattle.disk_model.specs.declared.disk.Area.{Area}
use Rattle.disk_model.specs.declared.disk.Area.TheVariants.{First, Second}
use Rattle.journal.specs.inside.Again.{SparedBy, Spares}
use Rattle.journal.proofs.Again.{spared_torn, spares_write}
use Rattle.journal.proofs.rewrite.lay_none.Goals as goal

pub returns-in-First-clause-moments : goal.returns-in-First-clause-moments
returns-in-First-clause-moments g c = λ model.
    subst (λ (a : Area). LeavesOnly (Spares a (g.D.Disk.view c.args.disk.now).history.now) (g.D.Disk.view c.args.disk.now).history (g.D.Disk.view c.write_at.new.self).history) (sym c.in-First.is)
    (spares_write First 10 _ _ _ _ (omega arith) (c.write_at.ensures.writes model))

pub returns-in-Second-clause-moments : goal.returns-in-Second-clause-moments
returns-in-Second-clause-moments g c = λ model.
    subst (λ (a : Area). LeavesOnly (Spares a (g.D.Disk.view c.args.disk.now).history.now) (g.D.Disk.view c.args.disk.now).history (g.D.Disk.view c.write_at-in-Second.new.self).history) (sym c.in-Second.is)
    (spares_write Second 0 _ _ _ _ tt (c.write_at-in-Second.ensures.writes model))

pub returns-in-First-clause-spared : goal.returns-in-First-clause-spared
returns-in-First-clause-spared g c = λ model.
    subst (λ (a : Area). SparedBy a (bytes_on (g.D.Disk.view c.args.disk.now)) (bytes_on (g.D.Disk.view c.write_at.new.self))) (sym c.in-First.is)
    (spared_torn First 10 _ _ _ (omega arith) (c.write_at.ensures.writes model).touched)

pub returns-in-Second-clause-spared : goal.returns-in-Second-clause-spared
returns-in-Second-clause-spared g c = λ model.
    subst (λ (a : Area). SparedBy a (bytes_on (g.D.Disk.view c.args.disk.now)) (bytes_on (g.D.Disk.view c.write_at-in-Second.new.self))) (sym c.in-Second.is)
    (spared_torn Second 0 _ _ _ tt (c.write_at-in-Second.ensures.writes model).touched)
