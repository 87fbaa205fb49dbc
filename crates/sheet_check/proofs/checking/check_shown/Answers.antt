use Rattle.std.proofs.Common.{Some, subst}
use Rattle.std.specs.Io.KnownBytes.{Appends}
use Rattle.std.proofs.lemmas.Result.{IfErr-weaker, IfOk-weaker}
use Rattle.child_edge.specs.Faithful.{at}
use Rattle.check_report.specs.Reports.{case, case_text}
use Rattle.sheet_check.specs.Evaluated.{came_if, one_by_one, reason_shown_in, shown_in, way}
use Rattle.sheet_check.proofs.Fields.{evaluation_failed, tell_failed}
use Rattle.sheet_check.proofs.checking.check_shown.Goals as goal

pub returns-in-Err-clause-err : goal.returns-in-Err-clause-err
returns-in-Err-clause-err g c = λ w h.
    evaluation_failed (one_by_one (way g.C.Children.after g.C.Sources.clock g.C.Sources.wakes c.args.place.now.manner.request.now.limit) c.args.place.now.manner.request.now.chosen c.args.place.now.manner.request.now.format) c.args.place.now.field.now c.requires.chosen (at w c.args.driver.now.sources c.args.driver.now.host.store.disk) c.evaluate.new.driver.host c.evaluate.new.driver.sources
    (g.W.Write.contents c.args.writer.now) c.in-Err.fault (c.in-Err.ensures.err w h)

pub returns-clause-ok : goal.returns-clause-ok
returns-clause-ok g c = λ w h.
    let q = c.in-Ok.ensures.ok w h in
    IfOk-weaker c.tell_what_came.result _ _
    (λ j p. (
      came_if c.in-Ok.came.is_there (shown_in q.0 c.args.place.now.field.now.id),
      q.0,
      c.in-Ok.came.took,
      q.1,
      q.2,
      p.0,
      p.1,
      subst (λ n. Appends (g.W.Write.contents c.args.writer.now) (g.W.Write.contents c.tell_what_came.new.writer)
          (case_text c.args.place.now.manner.request.now.format n
          (case c.args.place.now.field.now (came_if c.in-Ok.came.is_there (shown_in q.0 c.args.place.now.field.now.id))
          (reason_shown_in q.0 c.args.place.now.field.now.id) j.verdict (Some c.in-Ok.came.took)))) c.number.ensures p.2,
    ))
    (c.tell_what_came.ensures.ok q.0 q.2)

pub returns-clause-err : goal.returns-clause-err
returns-clause-err g c = λ w h.
    let q = c.in-Ok.ensures.ok w h in
    IfErr-weaker c.tell_what_came.result _ _
    (λ why p. tell_failed (one_by_one (way g.C.Children.after g.C.Sources.clock g.C.Sources.wakes c.args.place.now.manner.request.now.limit) c.args.place.now.manner.request.now.chosen c.args.place.now.manner.request.now.format) c.args.place.now.field.now c.requires.chosen (at w c.args.driver.now.sources c.args.driver.now.host.store.disk) c.evaluate.new.driver.host c.evaluate.new.driver.sources
    (came_if c.in-Ok.came.is_there (shown_in q.0 c.args.place.now.field.now.id)) c.in-Ok.came.took q.0 q.1 q.2 (g.W.Write.contents c.args.writer.now)
    (g.W.Write.contents c.tell_what_came.new.writer) why p)
    c.tell_what_came.ensures.err
