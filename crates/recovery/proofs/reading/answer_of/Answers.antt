use Rattle.std.proofs.Common.{refl}
use Rattle.std.proofs.lemmas.Result.{err_from_is_err_and}
use Rattle.recovery.proofs.Again.{no_fault, answer_in, same_answer}
use Rattle.recovery.proofs.reading.answer_of.Goals as goal

pub returns-in_err-id-clause-read : goal.returns-in_err-id-clause-read
returns-in_err-id-clause-read c =
    let p = err_from_is_err_and c.from_residual.result c.from_residual.ensures.1 in
    rw (p.1, p.2) (no_fault c.in_err-id.field-0.0 c.args.bytes.now c.in_err-id.ensures.read)

pub returns-in-Ok-clause-read : goal.returns-in-Ok-clause-read
returns-in-Ok-clause-read c o payload =
    same_answer o c.in_ok-id.id c.in_ok-prompt.prompt c.in_ok-id.rest.now c.in-Ok.output
    (rw c.in_ok-prompt.ensures (answer_in c.args.bytes.now c.in_ok-id.rest.now c.in_ok-id.prompt.now c.in_ok-id.id c.in_ok-id.ensures.read o payload)) c.in-Ok.ensures.ok

pub returns-in-Err-NotABlock-clause-read : goal.returns-in-Err-NotABlock-clause-read
returns-in-Err-NotABlock-clause-read c o payload =
    let answer = answer_in c.args.bytes.now c.in_ok-id.rest.now c.in_ok-id.prompt.now c.in_ok-id.id c.in_ok-id.ensures.read o payload in
    (rw c.in-Err-NotABlock.field-0-is at c.in-Err-NotABlock.ensures.no_block) refl answer.output answer.spelled
