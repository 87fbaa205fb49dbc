use Rattle.std.proofs.Common.{Option, Some, ap, refl, sym, subst}
use Rattle.std.proofs.KnownBytes.{Appends-nil}
use Rattle.std.proofs.lemmas.Result.{IfErr-weaker, IfOk-weaker}
use Rattle.worksheet.specs.declared.field.Answer.{Answer}
use Rattle.worksheet.specs.Laws.{HasShortPrompt}
use Rattle.child_edge.specs.Faithful.{at}
use Rattle.offline_programs.specs.declared.fault.RunFault.TheVariants as fault
use Rattle.check_report.specs.Reports.{case}
use Rattle.sheet_check.specs.Accept.{answer_ops, to_accept}
use Rattle.sheet_check.specs.Evaluated.{came_if, reason_shown_in, shown_in, way}
use Rattle.sheet_check.specs.Fields.{checked}
use Rattle.sheet_check.specs.inside.Checking.{unremembered}
use Rattle.sheet_check.specs.inside.Accepting.{putting}
use Rattle.sheet_check.proofs.Accepted.{evaluation-reported, evaluation_broke, memory_broke, short_in, shown_took, take_broke}
use Rattle.sheet_check.proofs.Fields.{evaluation_failed, tell_failed}
use Rattle.sheet_check.proofs.accept_shown.accept_shown.Goals as goal

pub returns-in-Err-clause-err : goal.returns-in-Err-clause-err
returns-in-Err-clause-err g c = λ w h.
    let way_here = way g.C.Children.after g.C.Sources.clock g.C.Sources.wakes c.args.place.now.manner.request.now.limit in
    let s = at w c.args.driver.now.sources c.args.driver.now.host.store.disk in
    let a = g.W.Write.contents c.args.writer.now in
    let broke = c.in-Err.ensures.err w h in
    evaluation_broke way_here c.args.place.now.manner.request.now.chosen c.args.place.now.field.now s c.evaluate.new.driver.host c.evaluate.new.driver.sources a (putting c.args.store.now c.args.store.now) c.in-Err.fault broke
    (evaluation_failed (to_accept way_here c.args.place.now.manner.request.now.chosen) c.args.place.now.field.now c.requires.chosen s c.evaluate.new.driver.host c.evaluate.new.driver.sources a c.in-Err.fault broke) (λ ops more disk stores. stores)

pub returns-in-Err-clause-stamped : goal.returns-in-Err-clause-stamped
returns-in-Err-clause-stamped g c = λ is.
    let w = c.requires.stands in
    absurd (evaluation-reported (way g.C.Children.after g.C.Sources.clock g.C.Sources.wakes c.args.place.now.manner.request.now.limit) c.args.place.now.field.now.id
    (at w.0 c.args.driver.now.sources c.args.driver.now.host.store.disk) c.evaluate.new.driver.host c.evaluate.new.driver.sources c.in-Err.fault (c.in-Err.ensures.err w.0 w.1) is)

pub returns-in-None-clause-err : goal.returns-in-None-clause-err
returns-in-None-clause-err g c = λ w h.
    let way_here = way g.C.Children.after g.C.Sources.clock g.C.Sources.wakes c.args.place.now.manner.request.now.limit in
    let s = at w c.args.driver.now.sources c.args.driver.now.host.store.disk in
    let a = g.W.Write.contents c.args.writer.now in
    let q = c.in-Ok.ensures.ok w h in
    memory_broke way_here c.args.place.now.manner.request.now.chosen c.args.place.now.field.now s c.evaluate.new.driver.host c.evaluate.new.driver.sources a (putting c.args.store.now c.args.store.now)
    (tell_failed (to_accept way_here c.args.place.now.manner.request.now.chosen) c.args.place.now.field.now c.requires.chosen s c.evaluate.new.driver.host c.evaluate.new.driver.sources (came_if c.in-Ok.came.is_there (shown_in q.0 c.args.place.now.field.now.id)) c.in-Ok.came.took q.0 q.1 q.2 a a fault.OutOfMemory (unremembered refl (Appends-nil a)))
    (λ ops more disk stores. stores)

pub take-requires-clause-short : goal.take-requires-clause-short
take-requires-clause-short g c =
    let q = c.in-Ok.ensures.ok c.requires.stands.0 c.requires.stands.1 in
    let f = c.in-Some.ensures q.0 q.2 in
    subst (λ (o : Option Answer). HasShortPrompt o) (sym f.taken)
    (short_in c.ops_make_worksheets.ensures c.evaluate.new.driver.host q.0 q.2 c.in-Ok.came.is_there c.args.place.now.field.now.id c.in-Some.found.judgement.verdict)

pub returns-in-Some-clause-ok : goal.returns-in-Some-clause-ok
returns-in-Some-clause-ok g c = λ w h.
    let way_here = way g.C.Children.after g.C.Sources.clock g.C.Sources.wakes c.args.place.now.manner.request.now.limit in
    let s = at w c.args.driver.now.sources c.args.driver.now.host.store.disk in
    let a = g.W.Write.contents c.args.writer.now in
    let q = c.in-Ok.ensures.ok w h in
    let came = came_if c.in-Ok.came.is_there (shown_in q.0 c.args.place.now.field.now.id) in
    IfOk-weaker c.take.result _ _
    (λ j p. shown_took way_here c.args.place.now.manner.request.now.chosen c.args.place.now.field.now s c.evaluate.new.driver.host c.evaluate.new.driver.sources a
    (g.W.Write.contents c.take.new.writer) (putting c.args.store.now c.take.new.store) came c.in-Ok.came.took q.0 c.in-Some.found j
    q.1 q.2 (c.in-Some.ensures q.0 q.2) p.0 p.1 p.2)
    c.take.ensures.ok

pub returns-in-Some-clause-err : goal.returns-in-Some-clause-err
returns-in-Some-clause-err g c = λ w h.
    let way_here = way g.C.Children.after g.C.Sources.clock g.C.Sources.wakes c.args.place.now.manner.request.now.limit in
    let s = at w c.args.driver.now.sources c.args.driver.now.host.store.disk in
    let a = g.W.Write.contents c.args.writer.now in
    let q = c.in-Ok.ensures.ok w h in
    let came = came_if c.in-Ok.came.is_there (shown_in q.0 c.args.place.now.field.now.id) in
    let f = c.in-Some.ensures q.0 q.2 in
    IfErr-weaker c.take.result _ _
    (λ why p. take_broke way_here c.args.place.now.manner.request.now.chosen c.args.place.now.field.now s c.evaluate.new.driver.host c.evaluate.new.driver.sources a (putting c.args.store.now c.take.new.store) (case c.args.place.now.field.now came (reason_shown_in q.0 c.args.place.now.field.now.id) c.in-Some.found.judgement.verdict (Some c.in-Ok.came.took))
    (answer_ops c.args.place.now.field.now.id c.in-Some.found.answer) (g.W.Write.contents c.take.new.writer) why
    (tell_failed (to_accept way_here c.args.place.now.manner.request.now.chosen) c.args.place.now.field.now c.requires.chosen s c.evaluate.new.driver.host c.evaluate.new.driver.sources came c.in-Ok.came.took q.0 q.1 q.2 a a fault.OutOfMemory (unremembered refl (Appends-nil a))) (
      q.0,
      checked came c.in-Ok.came.took c.in-Some.found.judgement.verdict (at q.0 c.evaluate.new.driver.sources c.evaluate.new.driver.host.store.disk) c.requires.chosen q.1 f.judged,
      q.2,
    )
    (ap (answer_ops c.args.place.now.field.now.id) f.taken) p)
    c.take.ensures.err
