use Rattle.std.proofs.Common.{sym}
use Rattle.std.proofs.lemmas.Result.{on_ok_weaker}
use Rattle.sheet_text.specs.Texts.{reply_text}
use Rattle.offline_programs.specs.Memory.{bad_line, no_op, replied}
use Rattle.offline_programs.proofs.memory.do_command.Goals as goal

pub returns-in-None-clause-ok : goal.returns-in-None-clause-ok
returns-in-None-clause-ok g c = λ ops h.
    on_ok_weaker c.write_bad_line.result (λ p. (bad_line c.args.number, ops, no_op c.args.command (sym c.in-None.ensures), h, p)) c.write_bad_line.ensures.ok

pub returns-in-Some-clause-ok : goal.returns-in-Some-clause-ok
returns-in-Some-clause-ok g c = λ ops h.
    let ran = c.do_op-reply.ensures ops h in
    on_ok_weaker c.write_reply.result (λ p. (reply_text c.do_op-reply.result, ran.0, replied c.args.command c.in-Some.op c.do_op-reply.result ran.0 (sym c.in-Some.ensures) ran.1, ran.2, p)) c.write_reply.ensures.ok
