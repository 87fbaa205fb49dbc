use Rattle.std.proofs.Common.{◌∙◌, ap, refl, sym}
use Rattle.worksheet.specs.Contents.{SheetView}
use Rattle.sheet_check.specs.Named.{all_named, missing_named, no_field}
use Rattle.sheet_check.proofs.named.accept_named.Goals as goal

pub returns-in-Some-clause-accepted : goal.returns-in-Some-clause-accepted
returns-in-Some-clause-accepted g c = λ ops disk stores.
    no_field c.in-Some.id (ap (λ (s : SheetView). missing_named c.args.manner.now.request.now.chosen s.contents.fields)
    (sym c.sheet.ensures.sheet) ∙ sym c.missing_named-missing.ensures ∙ c.in-Some.is) refl ((refl, refl), refl)

pub returns-in-Some-clause-shown : goal.returns-in-Some-clause-shown
returns-in-Some-clause-shown g c =
    no_field c.in-Some.id (ap (λ (s : SheetView). missing_named c.args.manner.now.request.now.chosen s.contents.fields)
    (sym c.sheet.ensures.sheet) ∙ sym c.missing_named-missing.ensures ∙ c.in-Some.is) refl refl

pub returns-in-None-clause-accepted : goal.returns-in-None-clause-accepted
returns-in-None-clause-accepted g c = λ ops disk stores.
    all_named c.accept_sheet-answer.result.answer (ap (λ (s : SheetView). missing_named c.args.manner.now.request.now.chosen s.contents.fields)
    (sym c.sheet.ensures.sheet) ∙ sym c.missing_named-missing.ensures ∙ c.in-None.is) c.answer_as.ensures
    (c.accept_sheet-answer.ensures.accepted ops disk stores)

pub returns-in-None-clause-shown : goal.returns-in-None-clause-shown
returns-in-None-clause-shown g c =
    all_named c.accept_sheet-answer.result.answer (ap (λ (s : SheetView). missing_named c.args.manner.now.request.now.chosen s.contents.fields)
    (sym c.sheet.ensures.sheet) ∙ sym c.missing_named-missing.ensures ∙ c.in-None.is) c.answer_as.ensures
    c.accept_sheet-answer.ensures.shown
