use Rattle.std.proofs.Common.{◌≡◌, ◌∙◌, ap, length, subst, sym, arith}
use Rattle.std.specs.Prelude.{IfSome}
use Rattle.worksheet.specs.Contents.{Contents, SheetView}
use Rattle.check_report.specs.declared.report.ReportFormat.TheVariants as format
use Rattle.sheet_check.specs.Evaluated.{way}
use Rattle.sheet_check.specs.Progress.{SheetShows, checked_count, display}
use Rattle.sheet_check.specs.inside.Accepting.{GoesOn, OnCopy}
use Rattle.sheet_check.specs.Check.{passage}
use Rattle.sheet_check.specs.Accept.{filing, to_accept}
use Rattle.sheet_check.proofs.Kept.{copy_is}
use Rattle.sheet_check.proofs.accept_fields.accepted_on_copies.Goals as goal

pub accepted_on_copy-requires-clause-few : goal.accepted_on_copy-requires-clause-few
accepted_on_copy-requires-clause-few g c =
    let o = c.in-Some.ensures in
    let same : c.sheet-in-Some.result.now.contents ≡ c.args.store.now.sheet.contents =
    ap (λ (s : SheetView). s.contents) c.sheet-in-Some.ensures.sheet ∙ copy_is c.one_sheet.ensures c.sheet.result.now.contents o.0 c.in-Some.was o.1 o.2 ∙ ap
    (λ (s : SheetView). s.contents) c.sheet.ensures.sheet in
    omega (arith, ap (λ (s : Contents). length s.fields) same, c.requires.few)

pub accepted_on_copy-requires-clause-goes_on : goal.accepted_on_copy-requires-clause-goes_on
accepted_on_copy-requires-clause-goes_on g c =
    let o = c.in-Some.ensures in
    let same : c.sheet-in-Some.result.now.contents ≡ c.args.store.now.sheet.contents =
    ap (λ (s : SheetView). s.contents) c.sheet-in-Some.ensures.sheet ∙ copy_is c.one_sheet.ensures c.sheet.result.now.contents o.0 c.in-Some.was o.1 o.2 ∙ ap
    (λ (s : SheetView). s.contents) c.sheet.ensures.sheet in
    subst (λ (s : Contents). GoesOn s c.args.store.now) (sym same) c.requires.goes_on

pub returns-in-Some-clause-some : goal.returns-in-Some-clause-some
returns-in-Some-clause-some g c = λ ops disk stores.
    let o = c.in-Some.ensures in
    let same : c.sheet-in-Some.result.now.contents ≡ c.args.store.now.sheet.contents =
    ap (λ (s : SheetView). s.contents) c.sheet-in-Some.ensures.sheet ∙ copy_is c.one_sheet.ensures c.sheet.result.now.contents o.0 c.in-Some.was o.1 o.2 ∙ ap
    (λ (s : SheetView). s.contents) c.sheet.ensures.sheet in
    subst (λ (s : Contents). IfSome c.accepted_on_copy.result.answer
    (OnCopy (to_accept (way g.C.Children.after g.C.Sources.clock g.C.Sources.wakes c.args.manner.now.request.now.limit) c.args.manner.now.request.now.chosen) s (passage c.args.sources c.accepted_on_copy.result.sources (g.W.Write.contents c.args.writer.now) (g.W.Write.contents c.accepted_on_copy.new.writer)) (filing g.W.Stamped.held ops disk c.accepted_on_copy.new.store.disk))) same
    (c.accepted_on_copy.ensures.some ops disk stores)

pub returns-in-Some-clause-shown : goal.returns-in-Some-clause-shown
returns-in-Some-clause-shown g c =
    let o = c.in-Some.ensures in
    let same : c.sheet-in-Some.result.now.contents ≡ c.args.store.now.sheet.contents =
    ap (λ (s : SheetView). s.contents) c.sheet-in-Some.ensures.sheet ∙ copy_is c.one_sheet.ensures c.sheet.result.now.contents o.0 c.in-Some.was o.1 o.2 ∙ ap
    (λ (s : SheetView). s.contents) c.sheet.ensures.sheet in
    subst (λ (s : Contents). IfSome c.accepted_on_copy.result.answer
    (λ counted. SheetShows (display format.Accepting g.P.Progress.shows)
    (checked_count c.args.manner.now.request.now.chosen s.fields) c.args.progress.now c.accepted_on_copy.new.progress counted)) same
    c.accepted_on_copy.ensures.shown
