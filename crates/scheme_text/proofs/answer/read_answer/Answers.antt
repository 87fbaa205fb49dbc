use Rattle.std.proofs.Common.{rules, ◌≡◌, Some, Err, ap}
use Rattle.scheme_text.specs.Outputs.{answer_text}
use Rattle.scheme_text.specs.declared.answer.AnswerFault.TheVariants as fault
use Rattle.scheme_text.proofs.Telling.{tells_bad}
use Rattle.scheme_text.proofs.answer.read_answer.Goals as goal

pub returns-in-Err-clause-bad : goal.returns-in-Err-clause-bad
returns-in-Err-clause-bad c h d reported =
    let text : answer_text c.args.output.now ≡ Some c.in-Some.text.now = search rules in
    let same : c.in-Err.fault ≡ fault.BadCompletion = search (rules, h) in
    tells_bad c.args.output.now c.in-Some.text.now d text (c.in-Err.ensures.bad (ap Err same)) reported
