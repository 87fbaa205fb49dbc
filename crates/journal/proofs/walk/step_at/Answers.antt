use Rattle.std.proofs.Common.{◌∙◌, arith, rules}
use Rattle.journal.proofs.Windows.{length_field}
use Rattle.journal.proofs.walk.step_at.Goals as goal

pub returns-clause-step : goal.returns-clause-step
returns-clause-step c = λ rest left some begins.
    let field = length_field c.args.front.now rest c.from-len.result (omega (arith, c.requires, c.if-left-len.false)) (omega arith) (search rules) (c.from-len.ensures ∙ c.from_be_bytes.ensures) begins in
    (field.0, field.1, omega (arith, c.if-len-eq0.false), omega (arith, c.if-len-gt-LONGEST_PAYLOAD.false), omega (arith, c.if-left-len.false, field.2, left))
