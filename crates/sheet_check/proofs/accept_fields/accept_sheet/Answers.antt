use Rattle.std.proofs.Common.{◌≡◌, ◌∙◌, [], subst, sym}
use Rattle.recovery.specs.Sheets.{StoreView}
use Rattle.check_report.specs.declared.report.ReportFormat.TheVariants as format
use Rattle.sheet_check.specs.Accept.{filing}
use Rattle.sheet_check.specs.Evaluated.{way}
use Rattle.sheet_check.specs.Kept.{HoldsAll}
use Rattle.sheet_check.specs.Progress.{checked_count, display}
use Rattle.sheet_check.proofs.Kept.{accept_answered}
use Rattle.sheet_check.proofs.Showing.{counts_shown, none_of_both}
use Rattle.sheet_check.proofs.accept_fields.accept_sheet.Goals as goal

pub returns-clause-accepted : goal.returns-clause-accepted
returns-clause-accepted g c = λ ops disk stores.
    accept_answered (way g.C.Children.after g.C.Sources.clock g.C.Sources.wakes c.args.manner.now.request.now.limit) c.args.manner.now.request.now.chosen c.args.store.now.sheet.contents c.args.sources c.accepted_on_copies-answer.result.sources (g.W.Write.contents c.args.writer.now) (g.W.Write.contents c.accepted_on_copies-answer.new.writer) (g.W.Write.contents c.tell_counts.new.writer) (filing g.W.Stamped.held ops disk c.accepted_on_copies-answer.new.store.disk)
    ((c.tell_counts.new.writer ≡ c.args.writer.now) × (c.accepted_on_copies-answer.result.sources ≡ c.args.sources)) c.accepted_on_copies-answer.result.answer c.tell_counts.result (c.accepted_on_copies-answer.ensures.some ops disk stores)
    (none_of_both c.accepted_on_copies-answer.result.answer c.accepted_on_copies-answer.ensures.none c.tell_counts.ensures.none
    (λ x y. ((y.0 ∙ x.1, x.0), (subst (λ (s : StoreView). HoldsAll ops [] disk s.disk) (sym x.3) stores.disk, tt))))
    c.tell_counts.ensures.counts

pub returns-clause-shown : goal.returns-clause-shown
returns-clause-shown g c =
    counts_shown (display format.Accepting g.P.Progress.shows)
    (checked_count c.args.manner.now.request.now.chosen c.args.store.now.sheet.contents.fields) c.args.progress.now c.accepted_on_copies-answer.new.progress c.tell_counts.new.progress format.Accepting (g.W.Write.contents c.accepted_on_copies-answer.new.writer) (g.W.Write.contents c.tell_counts.new.writer)
    c.accepted_on_copies-answer.result.answer c.tell_counts.result c.accepted_on_copies-answer.ensures.shown c.tell_counts.ensures.some
    (none_of_both c.accepted_on_copies-answer.result.answer c.accepted_on_copies-answer.ensures.none c.tell_counts.ensures.none
    (λ x y. (x.2, y.1))) c.tell_counts.ensures.counts
