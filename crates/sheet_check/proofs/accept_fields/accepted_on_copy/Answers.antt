use Rattle.std.proofs.Common.{sym, subst}
use Rattle.session_engine.specs.Host.{HostView, IsHost}
use Rattle.sheet_check.specs.Accept.{filing, to_accept}
use Rattle.sheet_check.specs.Check.{IsCopy, passage}
use Rattle.sheet_check.specs.Evaluated.{way}
use Rattle.sheet_check.specs.inside.Accepting.{OnCopy}
use Rattle.sheet_check.proofs.accept_fields.accepted_on_copy.Goals as goal

pub returns-clause-some : goal.returns-clause-some
returns-clause-some g c = λ ops disk stores.
    let o = c.in-Some.ensures in
    let e = sym c.drive_copy-driver.ensures.host in
    let h = subst (λ (x : HostView). IsHost x o.0) e o.1 in
    let copied = subst (λ (x : HostView). IsCopy c.args.suite.now.sheet.now.contents o.0 x.store.disk) e o.2 in
    subst (λ x. OnCopy (to_accept (way g.C.Children.after g.C.Sources.clock g.C.Sources.wakes c.args.suite.now.manner.request.now.limit) c.args.suite.now.manner.request.now.chosen) c.args.suite.now.sheet.now.contents (passage x c.into_sources.result (g.W.Write.contents c.args.writer.now) (g.W.Write.contents c.accept_and_stop-counted.new.writer)) (filing g.W.Stamped.held ops disk c.accept_and_stop-counted.new.store.disk) c.accept_and_stop-counted.result)
    c.drive_copy-driver.ensures.sources
    (subst (λ y. OnCopy (to_accept (way g.C.Children.after g.C.Sources.clock g.C.Sources.wakes c.args.suite.now.manner.request.now.limit) c.args.suite.now.manner.request.now.chosen) c.args.suite.now.sheet.now.contents (passage c.drive_copy-driver.result.sources y (g.W.Write.contents c.args.writer.now) (g.W.Write.contents c.accept_and_stop-counted.new.writer)) (filing g.W.Stamped.held ops disk c.accept_and_stop-counted.new.store.disk) c.accept_and_stop-counted.result)
    (sym c.into_sources.ensures) (o.0, c.drive_copy-driver.result.host.store.disk, copied, c.accept_and_stop-counted.ensures.ok o.0 h ops disk stores, c.accept_and_stop-counted.ensures.err o.0 h copied ops disk stores))

pub accept_and_stop-counted-requires-clause-stands : goal.accept_and_stop-counted-requires-clause-stands
accept_and_stop-counted-requires-clause-stands g c =
    let o = c.in-Some.ensures in
    (o.0, subst (λ (x : HostView). IsHost x o.0) (sym c.drive_copy-driver.ensures.host) o.1)
