use Rattle.std.proofs.Common.{◌∙◌, ◌∷◌, ◌++◌, [], List, ap, append_assoc, length, arith, subst, sym}
use Rattle.worksheet.specs.declared.field.Field.{Field}
use Rattle.child_edge.specs.Faithful.{at}
use Rattle.check_report.specs.declared.report.ReportFormat.TheVariants as format
use Rattle.check_report.specs.declared.verdict.VerdictCounts.{VerdictCounts}
use Rattle.check_report.specs.Verdicts.{total}
use Rattle.sheet_check.specs.Evaluated.{way}
use Rattle.sheet_check.specs.Accept.{accepted}
use Rattle.sheet_check.specs.Progress.{checked_count, display}
use Rattle.sheet_check.specs.inside.Checking.{FieldShown}
use Rattle.sheet_check.proofs.Accepted.{all_took, goes_further, none_took, one_broke, one_took, there_in}
use Rattle.sheet_check.proofs.Showing.{none_shown, one_shown}
use Rattle.sheet_check.proofs.accept_fields.accept_fields.Goals as goal

pub loop-field-init : goal.loop-field-init
loop-field-init g c =
    let all = ap length c.fields-fields.ensures in
    let none = ap total c.none-counts.ensures in
    record {
      few = omega (arith, all, none);
      errors = omega (arith, none, ap (λ (n : VerdictCounts). n.errors) c.none-counts.ensures);
      shown = none_shown format.Accepting g.P.Progress.shows
          (checked_count c.args.suite.now.manner.request.now.chosen c.args.suite.now.sheet.now.contents.fields) c.args.progress.now c.none-counts.result c.none-counts.ensures;
      rest = ([], sym c.fields-fields.ensures);
      stands = c.requires.stands;
      written = λ at_once. at_once;
      goes = c.requires.goes_on;
      runs = λ w h ops disk stores. none_took (way g.C.Children.after g.C.Sources.clock g.C.Sources.wakes c.args.suite.now.manner.request.now.limit) c.args.suite.now.manner.request.now.chosen c.args.suite.now.sheet.now.contents.fields _ w c.args.driver.now.host c.args.driver.now.sources (g.W.Write.contents c.args.writer.now) g.W.Stamped.held ops disk c.args.store.now c.none-counts.result c.fields-fields.ensures c.none-counts.ensures h stores;
    }

pub accept_field-requires-clause-few : goal.accept_field-requires-clause-few
accept_field-requires-clause-few g c = omega (arith, c.loop-field.invariant.few, c.requires.few, ap length c.in-Some.ensures.steps)

pub accept_field-requires-clause-errors : goal.accept_field-requires-clause-errors
accept_field-requires-clause-errors g c = c.loop-field.invariant.errors

pub accept_field-requires-clause-there : goal.accept_field-requires-clause-there
accept_field-requires-clause-there g c =
    let rest = c.loop-field.invariant.rest in
    there_in c.args.suite.now.sheet.now.contents rest.0 c.in-Some.field.now c.loop-field.fields c.next.new.self c.loop-field.store rest.1 c.in-Some.ensures.steps c.loop-field.invariant.goes

pub loop-field-preserved : goal.loop-field-preserved
loop-field-preserved g c =
    let one = ap length c.in-Some.ensures.steps in
    let was = c.loop-field.invariant in
    let gone = was.rest.0 in
    let took = c.in-Ok.ensures.ok was.stands.0 was.stands.1 in
    record {
      few = omega (arith, one, was.few, c.in-Ok.ensures.bound);
      errors = c.in-Ok.ensures.errors;
      shown = one_shown format.Accepting g.P.Progress.shows
          (checked_count c.args.suite.now.manner.request.now.chosen c.args.suite.now.sheet.now.contents.fields) c.args.progress.now c.loop-field.counts c.in-Ok.after c.loop-field.progress c.accept_field.new.progress was.shown
          (subst (λ all. FieldShown (display format.Accepting g.P.Progress.shows) all c.loop-field.counts c.in-Ok.after c.loop-field.progress c.accept_field.new.progress) c.count_checked-all.ensures c.in-Ok.ensures.shown);
      rest = (gone ++ c.in-Some.field.now ∷ [], was.rest.1 ∙ ap (λ (fs : List Field). gone ++ fs) c.in-Some.ensures.steps ∙ sym (append_assoc gone (c.in-Some.field.now ∷ []) c.next.new.self));
      stands = (took.0.1, took.0.3);
      written = λ at_once. c.accept_field.ensures.written (was.written at_once);
      goes = goes_further c.args.suite.now.sheet.now.contents c.loop-field.store c.accept_field.new.store was.goes took.0.0 (took.1 was.goes.ops (accepted was.goes.cases) was.goes.disk was.goes.stores);
      runs = λ w h ops disk stores.
          let so = was.runs w h ops disk stores in
          one_took (way g.C.Children.after g.C.Sources.clock g.C.Sources.wakes c.args.suite.now.manner.request.now.limit) c.args.suite.now.manner.request.now.chosen c.args.suite.now.sheet.now.contents.fields c.loop-field.fields c.in-Some.field.now c.next.new.self (at w c.args.driver.now.sources c.args.driver.now.host.store.disk) c.loop-field.driver.host c.loop-field.driver.sources
          (g.W.Write.contents c.args.writer.now) (g.W.Write.contents c.loop-field.writer) g.W.Stamped.held ops disk c.loop-field.store c.loop-field.counts c.accept_field.new.driver.host c.accept_field.new.driver.sources (g.W.Write.contents c.accept_field.new.writer)
          c.accept_field.new.store c.in-Some.ensures.steps so c.in-Ok.after (c.in-Ok.ensures.ok so.so.leads so.so.stands) c.in-Ok.ensures.stamped;
    }

pub returns-clause-ok : goal.returns-clause-ok
returns-clause-ok g c = λ w h ops disk stores.
    all_took (way g.C.Children.after g.C.Sources.clock g.C.Sources.wakes c.args.suite.now.manner.request.now.limit) c.args.suite.now.manner.request.now.chosen c.args.suite.now.sheet.now.contents.fields c.loop-field.fields (at w c.args.driver.now.sources c.args.driver.now.host.store.disk) c.loop-field.driver.host c.loop-field.driver.sources
    (g.W.Write.contents c.args.writer.now) (g.W.Write.contents c.loop-field.writer) g.W.Stamped.held ops disk c.loop-field.store c.loop-field.counts c.in_default.ensures.steps.0
    (c.loop-field.invariant.runs w h ops disk stores)

pub returns-in-Err-clause-err : goal.returns-in-Err-clause-err
returns-in-Err-clause-err g c = λ w h ops disk stores.
    let so = c.loop-field.invariant.runs w h ops disk stores in
    one_broke (way g.C.Children.after g.C.Sources.clock g.C.Sources.wakes c.args.suite.now.manner.request.now.limit) c.args.suite.now.manner.request.now.chosen c.args.suite.now.sheet.now.contents.fields c.loop-field.fields c.in-Some.field.now c.next.new.self (at w c.args.driver.now.sources c.args.driver.now.host.store.disk) c.loop-field.driver.host c.loop-field.driver.sources
    (g.W.Write.contents c.args.writer.now) (g.W.Write.contents c.loop-field.writer) g.W.Stamped.held ops disk c.loop-field.store c.loop-field.counts c.accept_field.new.driver.host c.accept_field.new.driver.sources (g.W.Write.contents c.accept_field.new.writer)
    c.accept_field.new.store c.in-Some.ensures.steps so c.in-Err.fault (c.in-Err.ensures.err so.so.leads so.so.stands) c.in-Err.ensures.stamped

pub returns-in-Err-clause-written : goal.returns-in-Err-clause-written
returns-in-Err-clause-written g c = λ at_once. c.accept_field.ensures.written (c.loop-field.invariant.written at_once)

pub returns-in-Err-clause-left : goal.returns-in-Err-clause-left
returns-in-Err-clause-left g c = (c.loop-field.counts, c.loop-field.progress, c.loop-field.invariant.shown, c.in-Err.ensures.left)
