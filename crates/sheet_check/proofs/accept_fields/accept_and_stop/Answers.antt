use Rattle.std.proofs.lemmas.Result.{IfErr-weaker, IfOk-weaker}
use Rattle.check_report.specs.declared.report.ReportFormat.TheVariants as format
use Rattle.sheet_check.specs.Accept.{filing}
use Rattle.sheet_check.specs.Evaluated.{way}
use Rattle.sheet_check.specs.Progress.{checked_count}
use Rattle.sheet_check.proofs.Kept.{broke_left, took_ended}
use Rattle.sheet_check.proofs.Showing.{sheet_shows}
use Rattle.sheet_check.proofs.accept_fields.accept_and_stop.Goals as goal

pub returns-clause-ok : goal.returns-clause-ok
returns-clause-ok g c = λ w h ops disk stores.
    IfOk-weaker c.accept_fields-counted.result _ _
    (λ counts p. took_ended (way g.C.Children.after g.C.Sources.clock g.C.Sources.wakes c.args.suite.now.manner.request.now.limit) c.args.suite.now.manner.request.now.chosen c.args.suite.now.sheet.now.contents w c.args.driver.now.host.store.disk c.accept_fields-counted.new.driver.host c.args.driver.now.sources c.accept_fields-counted.new.driver.sources c.stop_all.new.children
    (g.W.Write.contents c.args.writer.now) (g.W.Write.contents c.accept_fields-counted.new.writer) (filing g.W.Stamped.held ops disk c.accept_fields-counted.new.store.disk)
    (c.stop_all.ensures.working, c.stop_all.ensures.stopped) c.stop_all.ensures.numbered counts p)
    (c.accept_fields-counted.ensures.ok w h ops disk stores)

pub returns-clause-err : goal.returns-clause-err
returns-clause-err g c = λ w h copied ops disk stores.
    IfErr-weaker c.accept_fields-counted.result _ _
    (λ why p. broke_left (way g.C.Children.after g.C.Sources.clock g.C.Sources.wakes c.args.suite.now.manner.request.now.limit) c.args.suite.now.manner.request.now.chosen c.args.suite.now.sheet.now.contents w c.args.driver.now.host.store.disk c.accept_fields-counted.new.driver.host c.args.driver.now.sources c.accept_fields-counted.new.driver.sources c.stop_all.new.children
    (g.W.Write.contents c.args.writer.now) (g.W.Write.contents c.accept_fields-counted.new.writer) (filing g.W.Stamped.held ops disk c.accept_fields-counted.new.store.disk)
    (c.stop_all.ensures.working, c.stop_all.ensures.stopped) c.stop_all.ensures.numbered copied why p)
    (c.accept_fields-counted.ensures.err w h ops disk stores)

pub returns-clause-shown : goal.returns-clause-shown
returns-clause-shown g c =
    sheet_shows format.Accepting g.P.Progress.shows (checked_count c.args.suite.now.manner.request.now.chosen c.args.suite.now.sheet.now.contents.fields) c.args.progress.now c.accept_fields-counted.result c.accept_fields-counted.new.progress c.show.new.self c.accept_fields-counted.ensures.shown c.accept_fields-counted.ensures.left c.show.ensures
