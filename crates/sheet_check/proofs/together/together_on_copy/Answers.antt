use Rattle.std.proofs.Common.{sym, subst}
use Rattle.session_engine.specs.Host.{HostView, IsHost}
use Rattle.sheet_check.specs.Check.{IsCopy, passage}
use Rattle.sheet_check.specs.Evaluated.{way}
use Rattle.sheet_check.specs.Together.{cleared, side_by_side}
use Rattle.sheet_check.specs.inside.Comparing.{OnCleared}
use Rattle.sheet_check.proofs.together.together_on_copy.Goals as goal

pub check_together_and_stop-counted-requires-clause-stands : goal.check_together_and_stop-counted-requires-clause-stands
check_together_and_stop-counted-requires-clause-stands g c =
    let o = c.in-Some.ensures in
    (o.0, subst (λ (x : HostView). IsHost x o.0) (sym c.drive_copy-driver.ensures.host) o.1)

pub returns-clause-some : goal.returns-clause-some
returns-clause-some g c =
    let o = c.in-Some.ensures in
    let e = sym c.drive_copy-driver.ensures.host in
    let h = subst (λ (x : HostView). IsHost x o.0) e o.1 in
    let copied = subst (λ (x : HostView). IsCopy (cleared c.args.beside.now.manner.request.now.chosen c.args.sheet.now.contents.fields c.args.sheet.now.contents) o.0 x.store.disk) e o.2 in
    subst (λ x. OnCleared (side_by_side (way g.C.Children.after g.C.Sources.clock g.C.Sources.wakes c.args.beside.now.manner.request.now.limit) c.args.beside.now.jobs c.args.beside.now.manner.request.now.chosen c.args.beside.now.manner.request.now.format) c.args.sheet.now.contents (passage x c.into_sources.result (g.W.Write.contents c.args.writer.now) (g.W.Write.contents c.check_together_and_stop-counted.new.writer)) c.check_together_and_stop-counted.result)
    c.drive_copy-driver.ensures.sources
    (subst (λ y. OnCleared (side_by_side (way g.C.Children.after g.C.Sources.clock g.C.Sources.wakes c.args.beside.now.manner.request.now.limit) c.args.beside.now.jobs c.args.beside.now.manner.request.now.chosen c.args.beside.now.manner.request.now.format) c.args.sheet.now.contents (passage c.drive_copy-driver.result.sources y (g.W.Write.contents c.args.writer.now) (g.W.Write.contents c.check_together_and_stop-counted.new.writer)) c.check_together_and_stop-counted.result)
    (sym c.into_sources.ensures) (c.check_together_and_stop-counted.ensures.ok o.0 h copied, c.check_together_and_stop-counted.ensures.err o.0 h copied))
