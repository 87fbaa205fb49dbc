use Rattle.std.proofs.Common.{subst}
use Rattle.recovery.specs.Sheets.{IsStore}
use Rattle.recovery.proofs.Kept.{is_store}
use Rattle.recovery.proofs.store.Store.fits.Goals as goal

pub returns-clause-store : goal.returns-clause-store
returns-clause-store g c = subst IsStore c.self.view_is (is_store g.D.Disk.view c.self.inside.base c.self.inside.sheet c.self.invariant)
