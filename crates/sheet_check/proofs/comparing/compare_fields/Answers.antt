use Rattle.std.proofs.Common.{[], ap, inl, length, arith, refl, subst}
use Rattle.check_report.specs.declared.verdict.VerdictCounts.{VerdictCounts}
use Rattle.check_report.specs.Verdicts.{counts_of, total}
use Rattle.sheet_check.specs.Progress.{checked_count, display, none}
use Rattle.sheet_check.specs.inside.Checking.{FieldShown}
use Rattle.sheet_check.specs.inside.Comparing.{comparing}
use Rattle.sheet_check.proofs.Compared.{all_compared, more_compared, none_compared, report_broke, unopened_report}
use Rattle.sheet_check.proofs.Showing.{none_shown, one_shown}
use Rattle.sheet_check.proofs.comparing.compare_fields.Goals as goal

pub loop-field-init : goal.loop-field-init
loop-field-init g c =
    let all = ap length c.fields-fields.ensures in
    let none = ap total c.none-counts.ensures in
    record {
      few = omega (arith, all, none);
      errors = omega (arith, none, ap (λ (n : VerdictCounts). n.errors) c.none-counts.ensures);
      shown = none_shown c.args.manner.now.request.now.format g.P.Progress.shows
          (checked_count c.args.manner.now.request.now.chosen c.args.sheet.now.contents.fields) c.args.progress.now c.none-counts.result c.none-counts.ensures;
      runs = λ w h. none_compared (comparing c.args.manner.now.request.now.chosen c.args.manner.now.request.now.format w c.args.driver.now.sink.kept) c.args.sheet.now.contents.fields _ (g.W.Write.contents c.args.writer.now) (g.W.Write.contents c.tell_opening.new.writer) c.none-counts.result c.fields-fields.ensures
          c.none-counts.ensures c.in_default.ensures.ok;
    }

pub compare_field-requires-clause-few : goal.compare_field-requires-clause-few
compare_field-requires-clause-few g c = omega (arith, c.loop-field.invariant.few, c.requires)

pub compare_field-requires-clause-errors : goal.compare_field-requires-clause-errors
compare_field-requires-clause-errors g c = c.loop-field.invariant.errors

pub loop-field-preserved : goal.loop-field-preserved
loop-field-preserved g c =
    let one = ap length c.in-Some.ensures.steps in
    record {
      few = omega (arith, one, c.loop-field.invariant.few, c.in-Ok.ensures.bound);
      errors = c.in-Ok.ensures.errors;
      shown = one_shown c.args.manner.now.request.now.format g.P.Progress.shows
          (checked_count c.args.manner.now.request.now.chosen c.args.sheet.now.contents.fields) c.args.progress.now c.loop-field.counts c.in-Ok.after c.loop-field.progress c.compare_field.new.progress c.loop-field.invariant.shown
          (subst (λ all. FieldShown (display c.args.manner.now.request.now.format g.P.Progress.shows) all c.loop-field.counts c.in-Ok.after c.loop-field.progress c.compare_field.new.progress) c.count_checked-all.ensures c.in-Ok.ensures.shown);
      runs = λ w h.
          more_compared (comparing c.args.manner.now.request.now.chosen c.args.manner.now.request.now.format w c.args.driver.now.sink.kept) c.args.sheet.now.contents.fields c.loop-field.fields c.in-Some.field.now c.next.new.self (g.W.Write.contents c.args.writer.now) (g.W.Write.contents c.loop-field.writer) (g.W.Write.contents c.compare_field.new.writer)
          c.loop-field.counts c.in-Some.ensures.steps (c.loop-field.invariant.runs w h) c.in-Ok.after (c.in-Ok.ensures.ok w h);
    }

pub returns-clause-ok : goal.returns-clause-ok
returns-clause-ok g c = λ w h.
    all_compared (comparing c.args.manner.now.request.now.chosen c.args.manner.now.request.now.format w c.args.driver.now.sink.kept) c.args.sheet.now.contents.fields c.loop-field.fields (g.W.Write.contents c.args.writer.now) (g.W.Write.contents c.loop-field.writer) c.loop-field.counts c.in_default-next.ensures.steps.0 (c.loop-field.invariant.runs w h)

pub returns-in-Err-compare_field-clause-err : goal.returns-in-Err-compare_field-clause-err
returns-in-Err-compare_field-clause-err g c = λ w h.
    report_broke (comparing c.args.manner.now.request.now.chosen c.args.manner.now.request.now.format w c.args.driver.now.sink.kept) c.args.sheet.now.contents.fields c.loop-field.fields c.in-Some.field.now c.next.new.self (g.W.Write.contents c.args.writer.now) (g.W.Write.contents c.loop-field.writer) (g.W.Write.contents c.compare_field.new.writer)
    c.loop-field.counts c.in-Some.ensures.steps (c.loop-field.invariant.runs w h) c.in-Err-compare_field.fault c.in-Err-compare_field.ensures.err

pub returns-in-Err-compare_field-clause-left : goal.returns-in-Err-compare_field-clause-left
returns-in-Err-compare_field-clause-left g c = (c.loop-field.counts, c.loop-field.progress, c.loop-field.invariant.shown, c.in-Err-compare_field.ensures.left)

-- What stands first couldn't be written.

pub returns-in-Err-clause-err : goal.returns-in-Err-clause-err
returns-in-Err-clause-err g c = λ w h.
    unopened_report (comparing c.args.manner.now.request.now.chosen c.args.manner.now.request.now.format w c.args.driver.now.sink.kept) c.args.sheet.now.contents.fields (g.W.Write.contents c.args.writer.now) (g.W.Write.contents c.tell_opening.new.writer) c.in-Err.fault c.in-Err.ensures.err

pub returns-in-Err-clause-left : goal.returns-in-Err-clause-left
returns-in-Err-clause-left g c = (counts_of [], c.args.progress.now, none, inl refl)
