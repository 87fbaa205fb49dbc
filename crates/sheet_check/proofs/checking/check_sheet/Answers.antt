use Rattle.std.proofs.Common.{◌≡◌, ◌∙◌}
use Rattle.sheet_check.specs.Evaluated.{one_by_one, way}
use Rattle.sheet_check.specs.Progress.{checked_count, display}
use Rattle.sheet_check.proofs.Ends.{check_answered}
use Rattle.sheet_check.proofs.Showing.{counts_shown, none_of_both}
use Rattle.sheet_check.proofs.checking.check_sheet.Goals as goal

pub returns-clause-checked : goal.returns-clause-checked
returns-clause-checked g c =
    check_answered (one_by_one (way g.C.Children.after g.C.Sources.clock g.C.Sources.wakes c.args.manner.now.request.now.limit) c.args.manner.now.request.now.chosen c.args.manner.now.request.now.format) c.args.sheet.now.contents c.args.sources c.checked_on_copy-answer.result.sources (g.W.Write.contents c.args.writer.now) (g.W.Write.contents c.checked_on_copy-answer.new.writer) (g.W.Write.contents c.tell_counts.new.writer)
    ((c.tell_counts.new.writer ≡ c.args.writer.now) × (c.checked_on_copy-answer.result.sources ≡ c.args.sources)) c.checked_on_copy-answer.result.answer c.tell_counts.result c.checked_on_copy-answer.ensures.some
    (none_of_both c.checked_on_copy-answer.result.answer c.checked_on_copy-answer.ensures.none c.tell_counts.ensures.none (λ x y. (y.0 ∙ x.1, x.0)))
    c.tell_counts.ensures.counts

pub returns-clause-shown : goal.returns-clause-shown
returns-clause-shown g c =
    counts_shown (display c.args.manner.now.request.now.format g.P.Progress.shows)
    (checked_count c.args.manner.now.request.now.chosen c.args.sheet.now.contents.fields) c.args.progress.now c.checked_on_copy-answer.new.progress c.tell_counts.new.progress c.args.manner.now.request.now.format (g.W.Write.contents c.checked_on_copy-answer.new.writer) (g.W.Write.contents c.tell_counts.new.writer)
    c.checked_on_copy-answer.result.answer c.tell_counts.result c.checked_on_copy-answer.ensures.shown c.tell_counts.ensures.some
    (none_of_both c.checked_on_copy-answer.result.answer c.checked_on_copy-answer.ensures.none c.tell_counts.ensures.none
    (λ x y. (x.2, y.1))) c.tell_counts.ensures.counts
