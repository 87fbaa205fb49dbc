use Rattle.std.proofs.lemmas.Result.{IfErr-weaker, IfOk-weaker}
use Rattle.child_edge.specs.Faithful.{at}
use Rattle.sheet_check.specs.Evaluated.{one_by_one, way}
use Rattle.sheet_check.specs.Progress.{checked_count}
use Rattle.sheet_check.proofs.Ends.{fields_ended, fields_stopped}
use Rattle.sheet_check.proofs.Showing.{sheet_shows}
use Rattle.sheet_check.proofs.checking.check_and_stop.Goals as goal

pub returns-clause-ok : goal.returns-clause-ok
returns-clause-ok g c = λ w h.
    IfOk-weaker c.check_fields-counted.result _ _
    (λ counts p. fields_ended (one_by_one (way g.C.Children.after g.C.Sources.clock g.C.Sources.wakes c.args.manner.now.request.now.limit) c.args.manner.now.request.now.chosen c.args.manner.now.request.now.format) c.args.sheet.now.contents.fields (at w c.args.driver.now.sources c.args.driver.now.host.store.disk) c.check_fields-counted.new.driver.host c.check_fields-counted.new.driver.sources c.stop_all.new.children
    (g.W.Write.contents c.args.writer.now) (g.W.Write.contents c.check_fields-counted.new.writer) counts (c.stop_all.ensures.working, c.stop_all.ensures.stopped) p)
    (c.check_fields-counted.ensures.ok w h)

pub returns-clause-err : goal.returns-clause-err
returns-clause-err g c = λ w h.
    IfErr-weaker c.check_fields-counted.result _ _
    (λ why p. fields_stopped (one_by_one (way g.C.Children.after g.C.Sources.clock g.C.Sources.wakes c.args.manner.now.request.now.limit) c.args.manner.now.request.now.chosen c.args.manner.now.request.now.format) c.args.sheet.now.contents.fields (at w c.args.driver.now.sources c.args.driver.now.host.store.disk) c.check_fields-counted.new.driver.host c.check_fields-counted.new.driver.sources c.stop_all.new.children
    (g.W.Write.contents c.args.writer.now) (g.W.Write.contents c.check_fields-counted.new.writer) why (c.stop_all.ensures.working, c.stop_all.ensures.stopped) c.stop_all.ensures.numbered p)
    (c.check_fields-counted.ensures.err w h)

pub returns-clause-shown : goal.returns-clause-shown
returns-clause-shown g c =
    sheet_shows c.args.manner.now.request.now.format g.P.Progress.shows
    (checked_count c.args.manner.now.request.now.chosen c.args.sheet.now.contents.fields) c.args.progress.now c.check_fields-counted.result c.check_fields-counted.new.progress c.show.new.self c.check_fields-counted.ensures.shown c.check_fields-counted.ensures.left c.show.ensures
