use Rattle.std.proofs.Common.{[], inl, inr, refl}
use Rattle.std.proofs.KnownBytes.{Appends-nil}
use Rattle.std.proofs.lemmas.Result.{IfErr-weaker, IfOk-weaker}
use Rattle.check_report.specs.Verdicts.{counts_of}
use Rattle.sheet_check.specs.Progress.{none}
use Rattle.sheet_check.proofs.together.check_together_on.Goals as goal

pub returns-in-Ok-clause-ok : goal.returns-in-Ok-clause-ok
returns-in-Ok-clause-ok g c = λ w h.
    let q = c.in-Ok.ensures.ok w h in
    IfOk-weaker c.compare_fields.result _ _
    (λ counts p. (c.evaluate_checked.new.driver.sink.kept, (q, p)))
    (c.compare_fields.ensures.ok q.0 q.2)

pub returns-in-Ok-clause-err : goal.returns-in-Ok-clause-err
returns-in-Ok-clause-err g c = λ w h.
    let q = c.in-Ok.ensures.ok w h in
    IfErr-weaker c.compare_fields.result _ _
    (λ why p. inr (c.evaluate_checked.new.driver.sink.kept, (q, p)))
    (c.compare_fields.ensures.err q.0 q.2)

pub returns-in-Err-clause-err : goal.returns-in-Err-clause-err
returns-in-Err-clause-err g c = λ w h. inl (c.in-Err.ensures.err w h, Appends-nil (g.W.Write.contents c.args.writer.now))

pub returns-in-Err-clause-left : goal.returns-in-Err-clause-left
returns-in-Err-clause-left g c = (counts_of [], c.args.progress.now, none, inl refl)
