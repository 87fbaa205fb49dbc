use Rattle.std.proofs.Common.{sym, subst}
use Rattle.session_engine.specs.Host.{HostView, IsHost}
use Rattle.sheet_check.specs.Check.{IsCopy, passage}
use Rattle.sheet_check.specs.Evaluated.{one_by_one, way}
use Rattle.sheet_check.specs.inside.Checking.{OnCopy}
use Rattle.sheet_check.proofs.checking.checked_on_copy.Goals as goal

pub returns-clause-some : goal.returns-clause-some
returns-clause-some g c =
    let o = c.in-Some.ensures in
    let e = sym c.drive_copy-driver.ensures.host in
    let h = subst (λ (x : HostView). IsHost x o.0) e o.1 in
    let copied = subst (λ (x : HostView). IsCopy c.args.sheet.now.contents o.0 x.store.disk) e o.2 in
    subst (λ x. OnCopy (one_by_one (way g.C.Children.after g.C.Sources.clock g.C.Sources.wakes c.args.manner.now.request.now.limit) c.args.manner.now.request.now.chosen c.args.manner.now.request.now.format) c.args.sheet.now.contents (passage x c.into_sources.result (g.W.Write.contents c.args.writer.now) (g.W.Write.contents c.check_and_stop-counted.new.writer)) c.check_and_stop-counted.result)
    c.drive_copy-driver.ensures.sources
    (subst (λ y. OnCopy (one_by_one (way g.C.Children.after g.C.Sources.clock g.C.Sources.wakes c.args.manner.now.request.now.limit) c.args.manner.now.request.now.chosen c.args.manner.now.request.now.format) c.args.sheet.now.contents (passage c.drive_copy-driver.result.sources y (g.W.Write.contents c.args.writer.now) (g.W.Write.contents c.check_and_stop-counted.new.writer)) c.check_and_stop-counted.result)
    (sym c.into_sources.ensures) (o.0, c.drive_copy-driver.result.host.store.disk, copied, c.check_and_stop-counted.ensures.ok o.0 h, c.check_and_stop-counted.ensures.err o.0 h))
