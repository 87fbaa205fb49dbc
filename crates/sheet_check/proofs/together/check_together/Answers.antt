use Rattle.std.proofs.Common.{◌≡◌, refl, sym, subst}
use Rattle.disk_model.specs.Disk.{bytes_on}
use Rattle.recovery.specs.Sheets.{IsSheetImage}
use Rattle.worksheet.specs.Contents.{SheetView}
use Rattle.journal.specs.declared.opening.OpenCause.TheVariants as opens
use Rattle.sheet_check.specs.Check.{passage}
use Rattle.sheet_check.specs.Evaluated.{way}
use Rattle.sheet_check.specs.Named.{missing_named}
use Rattle.sheet_check.specs.Together.{opened, side_by_side, unopened}
use Rattle.sheet_check.specs.Progress as progress
use Rattle.sheet_check.proofs.Lacking.{together_check_unopened}
use Rattle.sheet_check.proofs.together.check_together.Goals as goal

pub returns-in-Ok-clause-checked : goal.returns-in-Ok-clause-checked
returns-in-Ok-clause-checked g c =
    opened c.sheet.result.now.contents
    (λ m. subst (λ (s : SheetView). IsSheetImage s.contents (bytes_on (g.D.Disk.view c.args.disk))) (sym c.sheet.ensures.sheet) (c.in-Ok.ensures.sheet m))
    c.check_named_together-answer.ensures.checked

pub returns-in-Ok-clause-failed : goal.returns-in-Ok-clause-failed
returns-in-Ok-clause-failed g c = λ is.
    absurd (together_check_unopened (side_by_side (way g.C.Children.after g.C.Sources.clock g.C.Sources.wakes c.args.beside.now.manner.request.now.limit) c.args.beside.now.jobs c.args.beside.now.manner.request.now.chosen c.args.beside.now.manner.request.now.format) c.sheet.result.now.contents
    (passage c.args.sources c.check_named_together-answer.result.sources (g.W.Write.contents c.args.writer.now) (g.W.Write.contents c.check_named_together-answer.new.writer))
    (missing_named c.args.beside.now.manner.request.now.chosen c.sheet.result.now.contents.fields)
    ((c.check_named_together-answer.new.writer ≡ c.args.writer.now) × (c.check_named_together-answer.result.sources ≡ c.args.sources))
    c.check_named_together-answer.result.answer opens.Disk c.check_named_together-answer.ensures.checked is)

pub returns-in-Err-clause-checked : goal.returns-in-Err-clause-checked
returns-in-Err-clause-checked g c = unopened c.in-Err.field-0.cause refl (refl, refl) c.in-Err.ensures.fault

pub returns-in-Ok-clause-shown : goal.returns-in-Ok-clause-shown
returns-in-Ok-clause-shown g c =
    progress.opened c.sheet.result.now.contents
    (λ m. subst (λ (s : SheetView). IsSheetImage s.contents (bytes_on (g.D.Disk.view c.args.disk))) (sym c.sheet.ensures.sheet) (c.in-Ok.ensures.sheet m))
    c.check_named_together-answer.ensures.shown

pub returns-in-Err-clause-shown : goal.returns-in-Err-clause-shown
returns-in-Err-clause-shown g c = progress.unopened c.in-Err.field-0.cause refl refl
