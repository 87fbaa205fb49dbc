use Rattle.std.proofs.lemmas.Result.{IfErr-weaker, IfOk-weaker}
use Rattle.sheet_check.specs.Evaluated.{way}
use Rattle.sheet_check.specs.Progress.{checked_count}
use Rattle.sheet_check.specs.Together.{side_by_side}
use Rattle.sheet_check.proofs.Compared.{together_ended, together_failed}
use Rattle.sheet_check.proofs.Showing.{sheet_shows}
use Rattle.sheet_check.proofs.together.check_together_and_stop.Goals as goal

pub returns-clause-ok : goal.returns-clause-ok
returns-clause-ok g c = λ w h copied.
    IfOk-weaker c.check_together_on-counted.result _ _
    (λ counts p. together_ended (side_by_side (way g.C.Children.after g.C.Sources.clock g.C.Sources.wakes c.args.beside.now.manner.request.now.limit) c.args.beside.now.jobs c.args.beside.now.manner.request.now.chosen c.args.beside.now.manner.request.now.format) c.args.sheet.now.contents w c.args.driver.now.host c.check_together_on-counted.new.driver.host copied c.args.driver.now.sources
    c.check_together_on-counted.new.driver.sources c.stop_all.new.children (g.W.Write.contents c.args.writer.now)
    (g.W.Write.contents c.check_together_on-counted.new.writer)
    (c.stop_all.ensures.working, c.stop_all.ensures.stopped) c.stop_all.ensures.numbered counts p)
    (c.check_together_on-counted.ensures.ok w h)

pub returns-clause-err : goal.returns-clause-err
returns-clause-err g c = λ w h copied.
    IfErr-weaker c.check_together_on-counted.result _ _
    (λ why p. together_failed (side_by_side (way g.C.Children.after g.C.Sources.clock g.C.Sources.wakes c.args.beside.now.manner.request.now.limit) c.args.beside.now.jobs c.args.beside.now.manner.request.now.chosen c.args.beside.now.manner.request.now.format) c.args.sheet.now.contents w c.args.driver.now.host c.check_together_on-counted.new.driver.host copied c.args.driver.now.sources
    c.check_together_on-counted.new.driver.sources c.stop_all.new.children (g.W.Write.contents c.args.writer.now)
    (g.W.Write.contents c.check_together_on-counted.new.writer) (c.stop_all.ensures.working, c.stop_all.ensures.stopped) c.stop_all.ensures.numbered why p)
    (c.check_together_on-counted.ensures.err w h)

pub returns-clause-shown : goal.returns-clause-shown
returns-clause-shown g c =
    sheet_shows c.args.beside.now.manner.request.now.format g.P.Progress.shows
    (checked_count c.args.beside.now.manner.request.now.chosen c.args.sheet.now.contents.fields) c.args.progress.now c.check_together_on-counted.result c.check_together_on-counted.new.progress c.show.new.self c.check_together_on-counted.ensures.shown c.check_together_on-counted.ensures.left c.show.ensures
