use Rattle.std.proofs.Common.{ap, sym, subst}
use Rattle.std.specs.Prelude.{Err, IfOk, OnErr}
use Rattle.live.specs.Saying.{IsCommand}
use Rattle.live.proofs.Said.{wants_command}
use Rattle.line_agenda.specs.Alone.{AsksAlone}
use Rattle.line_agenda.proofs.alone.choose_line.Goals as goal

pub returns-in-Ok-clause-ok : goal.returns-in-Ok-clause-ok
returns-in-Ok-clause-ok g c = λ w h.
    subst (λ l. IfOk c.choose.result (AsksAlone c.args.at.manner c.args.at.number w c.args.at.now l)) (sym c.in-Ok.ensures.ok) (c.choose.ensures.ok w h)

pub returns-in-Ok-clause-err : goal.returns-in-Ok-clause-err
returns-in-Ok-clause-err g c =
    subst (λ l. OnErr c.choose.result (IsCommand l)) (sym c.in-Ok.ensures.ok) c.choose.ensures.err

pub returns-in-Err-BadLine-clause-ok : goal.returns-in-Err-BadLine-clause-ok
returns-in-Err-BadLine-clause-ok g c = λ w h.
    subst (λ l. AsksAlone c.args.at.manner c.args.at.number w c.args.at.now l c.bad.result)
    (sym (c.in-Err-BadLine.ensures.bad (ap (λ e. Err e) c.in-Err-BadLine.field-0-is))) (c.bad.ensures w)

pub returns-in-Err-OutOfMemory-clause-err : goal.returns-in-Err-OutOfMemory-clause-err
returns-in-Err-OutOfMemory-clause-err g c =
    wants_command c.args.line.now (c.in-Err-OutOfMemory.ensures.memory (ap (λ e. Err e) c.in-Err-OutOfMemory.field-0-is))
