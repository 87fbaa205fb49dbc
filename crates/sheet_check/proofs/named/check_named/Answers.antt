use Rattle.std.proofs.Common.{refl, sym}
use Rattle.sheet_check.specs.Named.{all_named, no_field}
use Rattle.sheet_check.proofs.named.check_named.Goals as goal

pub returns-in-Some-clause-checked : goal.returns-in-Some-clause-checked
returns-in-Some-clause-checked g c = no_field c.in-Some.id (sym c.in-Some.ensures) refl (refl, refl)

pub returns-in-Some-clause-shown : goal.returns-in-Some-clause-shown
returns-in-Some-clause-shown g c = no_field c.in-Some.id (sym c.in-Some.ensures) refl refl

pub returns-in-None-clause-checked : goal.returns-in-None-clause-checked
returns-in-None-clause-checked g c = all_named c.check_sheet-answer.result.answer (sym c.in-None.ensures) c.answer_as.ensures c.check_sheet-answer.ensures.checked

pub returns-in-None-clause-shown : goal.returns-in-None-clause-shown
returns-in-None-clause-shown g c = all_named c.check_sheet-answer.result.answer (sym c.in-None.ensures) c.answer_as.ensures c.check_sheet-answer.ensures.shown
