use Rattle.std.proofs.Common.{◌∙◌, sym, refl}
use Rattle.worksheet.proofs.CheckLaws.{text_is, no_text_is}
use Rattle.worksheet.proofs.check.input_text.Goals as goal

pub returns-in-Ok-clause-some : goal.returns-in-Ok-clause-some
returns-in-Ok-clause-some c =
    let may = sym c.may_be_input.ensures ∙ c.if-not-may_be_input.false in
    (c.in-Ok.ensures.cases.0, rw (may, text_is c.args.bytes.now c.in-Ok.ensures.cases.1) refl)

pub returns-in-Err-clause-none : goal.returns-in-Err-clause-none
returns-in-Err-clause-none c =
    let may = sym c.may_be_input.ensures ∙ c.if-not-may_be_input.false in
    rw (may, no_text_is c.args.bytes.now c.in-Err.ensures.cases.0) refl
