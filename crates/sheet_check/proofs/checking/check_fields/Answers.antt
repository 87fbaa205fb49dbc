use Rattle.std.proofs.Common.{[], ap, inl, length, arith, refl, subst}
use Rattle.child_edge.specs.Faithful.{at}
use Rattle.check_report.specs.declared.verdict.VerdictCounts.{VerdictCounts}
use Rattle.check_report.specs.Verdicts.{counts_of, total}
use Rattle.sheet_check.specs.Evaluated.{one_by_one, way}
use Rattle.sheet_check.specs.Progress.{checked_count, display, none}
use Rattle.sheet_check.specs.inside.Checking.{FieldShown}
use Rattle.sheet_check.proofs.Fields.{none_checked, one_checked, all_checked, fields_failed, unopened_failed}
use Rattle.sheet_check.proofs.Showing.{none_shown, one_shown}
use Rattle.sheet_check.proofs.checking.check_fields.Goals as goal

pub loop-field-init : goal.loop-field-init
loop-field-init g c =
    let all = ap length c.fields-fields.ensures in
    let none = ap total c.none-counts.ensures in
    record {
      few = omega (arith, all, none);
      errors = omega (arith, none, ap (λ (n : VerdictCounts). n.errors) c.none-counts.ensures);
      shown = none_shown c.args.manner.now.request.now.format g.P.Progress.shows
          (checked_count c.args.manner.now.request.now.chosen c.args.sheet.now.contents.fields) c.args.progress.now c.none-counts.result c.none-counts.ensures;
      runs = λ w h. none_checked (one_by_one (way g.C.Children.after g.C.Sources.clock g.C.Sources.wakes c.args.manner.now.request.now.limit) c.args.manner.now.request.now.chosen c.args.manner.now.request.now.format) c.args.sheet.now.contents.fields _ w c.args.driver.now.host c.args.driver.now.sources (g.W.Write.contents c.args.writer.now) (g.W.Write.contents c.tell_opening.new.writer) c.none-counts.result c.fields-fields.ensures c.none-counts.ensures h c.in_default.ensures.ok;
    }

pub check_field-requires-clause-few : goal.check_field-requires-clause-few
check_field-requires-clause-few g c = omega (arith, c.loop-field.invariant.few, c.requires)

pub check_field-requires-clause-errors : goal.check_field-requires-clause-errors
check_field-requires-clause-errors g c = c.loop-field.invariant.errors

pub loop-field-preserved : goal.loop-field-preserved
loop-field-preserved g c =
    let one = ap length c.in-Some.ensures.steps in
    record {
      few = omega (arith, one, c.loop-field.invariant.few, c.in-Ok.ensures.bound);
      errors = c.in-Ok.ensures.errors;
      shown = one_shown c.args.manner.now.request.now.format g.P.Progress.shows
          (checked_count c.args.manner.now.request.now.chosen c.args.sheet.now.contents.fields) c.args.progress.now c.loop-field.counts c.in-Ok.after c.loop-field.progress c.check_field.new.progress c.loop-field.invariant.shown
          (subst (λ all. FieldShown (display c.args.manner.now.request.now.format g.P.Progress.shows) all c.loop-field.counts c.in-Ok.after c.loop-field.progress c.check_field.new.progress) c.count_checked-all.ensures c.in-Ok.ensures.shown);
      runs = λ w h.
          let so = c.loop-field.invariant.runs w h in
          one_checked (one_by_one (way g.C.Children.after g.C.Sources.clock g.C.Sources.wakes c.args.manner.now.request.now.limit) c.args.manner.now.request.now.chosen c.args.manner.now.request.now.format) c.args.sheet.now.contents.fields c.loop-field.fields c.in-Some.field.now c.next.new.self (at w c.args.driver.now.sources c.args.driver.now.host.store.disk) c.loop-field.driver.host c.loop-field.driver.sources
          (g.W.Write.contents c.args.writer.now) (g.W.Write.contents c.loop-field.writer) c.loop-field.counts c.check_field.new.driver.host c.check_field.new.driver.sources (g.W.Write.contents c.check_field.new.writer)
          c.in-Some.ensures.steps so c.in-Ok.after (c.in-Ok.ensures.ok so.leads so.stands);
    }

pub returns-clause-ok : goal.returns-clause-ok
returns-clause-ok g c = λ w h.
    all_checked (one_by_one (way g.C.Children.after g.C.Sources.clock g.C.Sources.wakes c.args.manner.now.request.now.limit) c.args.manner.now.request.now.chosen c.args.manner.now.request.now.format) c.args.sheet.now.contents.fields c.loop-field.fields (at w c.args.driver.now.sources c.args.driver.now.host.store.disk) c.loop-field.driver.host c.loop-field.driver.sources
    (g.W.Write.contents c.args.writer.now) (g.W.Write.contents c.loop-field.writer) c.loop-field.counts c.in_default-next.ensures.steps.0 (c.loop-field.invariant.runs w h)

pub returns-in-Err-check_field-clause-err : goal.returns-in-Err-check_field-clause-err
returns-in-Err-check_field-clause-err g c = λ w h.
    let so = c.loop-field.invariant.runs w h in
    fields_failed (one_by_one (way g.C.Children.after g.C.Sources.clock g.C.Sources.wakes c.args.manner.now.request.now.limit) c.args.manner.now.request.now.chosen c.args.manner.now.request.now.format) c.args.sheet.now.contents.fields c.loop-field.fields c.in-Some.field.now c.next.new.self (at w c.args.driver.now.sources c.args.driver.now.host.store.disk) c.loop-field.driver.host c.loop-field.driver.sources
    (g.W.Write.contents c.args.writer.now) (g.W.Write.contents c.loop-field.writer) c.loop-field.counts c.check_field.new.driver.host c.check_field.new.driver.sources (g.W.Write.contents c.check_field.new.writer)
    c.in-Some.ensures.steps so c.in-Err-check_field.fault (c.in-Err-check_field.ensures.err so.leads so.stands)

pub returns-in-Err-check_field-clause-left : goal.returns-in-Err-check_field-clause-left
returns-in-Err-check_field-clause-left g c = (c.loop-field.counts, c.loop-field.progress, c.loop-field.invariant.shown, c.in-Err-check_field.ensures.left)

-- What stands first couldn't be written.

pub returns-in-Err-clause-err : goal.returns-in-Err-clause-err
returns-in-Err-clause-err g c = λ w h.
    unopened_failed (one_by_one (way g.C.Children.after g.C.Sources.clock g.C.Sources.wakes c.args.manner.now.request.now.limit) c.args.manner.now.request.now.chosen c.args.manner.now.request.now.format) c.args.sheet.now.contents.fields w c.args.driver.now.host c.args.driver.now.sources (g.W.Write.contents c.args.writer.now)
    (g.W.Write.contents c.tell_opening.new.writer) c.in-Err.fault h c.in-Err.ensures.err

pub returns-in-Err-clause-left : goal.returns-in-Err-clause-left
returns-in-Err-clause-left g c = (counts_of [], c.args.progress.now, none, inl refl)
