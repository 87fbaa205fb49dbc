use Rattle.std.proofs.Common.{◌≡◌, ◌∙◌, None, ap, inr, subst, sym}
use Rattle.std.specs.Prelude.{not}
use Rattle.std.specs.Io.KnownBytes.{Appends}
use Rattle.check_report.specs.Chosen.{Judged}
use Rattle.check_report.specs.Errors.{brings_error}
use Rattle.check_report.specs.Reports.{case, case_text}
use Rattle.sheet_check.specs.Evaluated.{came_if, reason_shown_in, shown_in}
use Rattle.sheet_check.specs.Marks.{is_late}
use Rattle.sheet_check.specs.inside.Comparing.{comparing}
use Rattle.sheet_check.proofs.Compared.{one_compared, one_passed}
use Rattle.sheet_check.proofs.comparing.compare_field.Goals as goal

pub returns-then-not-has-clause-ok : goal.returns-then-not-has-clause-ok
returns-then-not-has-clause-ok g c = λ w h.
    one_passed (comparing c.args.place.now.manner.request.now.chosen c.args.place.now.manner.request.now.format w c.args.driver.now.sink.kept) c.args.place.now.field.now (g.W.Write.contents c.args.writer.now) c.args.place.now.counts (sym c.has.ensures ∙ c.if-not-has.true)

pub returns-in-Ok-clause-ok : goal.returns-in-Ok-clause-ok
returns-in-Ok-clause-ok g c = λ w h.
    let field = c.args.place.now.field.now in
    let in_time = c.is_in_time.ensures ∙ ap (λ marks. not (is_late marks field.id)) c.as_slice.ensures in
    let reported = subst (λ x. Judged c.args.place.now.manner.request.now.chosen field (came_if x (shown_in w field.id)) c.in-Ok.judgement.verdict
    × (c.in-Ok.judgement.error ≡ brings_error (came_if x (shown_in w field.id)))
    × Appends (g.W.Write.contents c.args.writer.now) (g.W.Write.contents c.tell_what_came.new.writer)
    (case_text c.args.place.now.manner.request.now.format c.number.result
    (case field (came_if x (shown_in w field.id)) (reason_shown_in w field.id) c.in-Ok.judgement.verdict None))) in_time (c.in-Ok.ensures.ok w h) in
    let m = comparing c.args.place.now.manner.request.now.chosen c.args.place.now.manner.request.now.format w c.args.driver.now.sink.kept in
    one_compared m c.number.result field (g.W.Write.contents c.args.writer.now)
    (g.W.Write.contents c.tell_what_came.new.writer) c.args.place.now.counts c.counted.result c.in-Ok.judgement (sym c.has.ensures ∙ c.if-not-has.false)
    reported.0 reported.1 reported.2 c.number.ensures c.counted.ensures.counted

pub returns-in-Ok-clause-shown : goal.returns-in-Ok-clause-shown
returns-in-Ok-clause-shown g c = inr (c.in-Ok.judgement, c.tell_what_came.new.progress, c.counted.ensures.counted, c.in-Ok.ensures.room, c.counted.ensures.shown)
