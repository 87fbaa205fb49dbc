use Rattle.std.proofs.Common.{refl, sym, subst}
use Rattle.std.specs.Prelude.{Some, IfOk, OnErr}
use Rattle.sheet_text.specs.declared.script.ScriptLine.TheVariants as line
use Rattle.live.specs.declared.live_line.LiveLine.TheVariants as live
use Rattle.live.specs.Saying.{IsCommand}
use Rattle.line_agenda.specs.Alone.{AsksAlone, BeginsWait}
use Rattle.line_agenda.proofs.Faults.{at_a_fault}
use Rattle.line_agenda.proofs.alone.choose_script.Goals as goal

pub returns-in-Skip-clause-ok : goal.returns-in-Skip-clause-ok
returns-in-Skip-clause-ok g c = λ w h.
    subst (λ l. AsksAlone c.args.at.manner c.args.at.number w c.args.at.now (Some (live.Script l)) c.by_itself.result)
    (sym c.in-Skip.is) (c.by_itself.ensures.asks, c.by_itself.ensures.doing)

pub returns-in-Wait-clause-ok : goal.returns-in-Wait-clause-ok
returns-in-Wait-clause-ok g c = λ w h.
    subst (λ l. AsksAlone c.args.at.manner c.args.at.number w c.args.at.now (Some (live.Script l)) c.begin.result)
    (sym c.in-Wait.is)
    (subst (λ x. BeginsWait c.args.at.number w x c.begin.result) c.untimed.ensures (c.begin.ensures w h))

pub returns-in-Print-clause-ok : goal.returns-in-Print-clause-ok
returns-in-Print-clause-ok g c = λ w h.
    subst (λ l. AsksAlone c.args.at.manner c.args.at.number w c.args.at.now (Some (live.Script l)) c.by_itself-in-Print.result)
    (sym c.in-Print.is) (c.by_itself-in-Print.ensures.asks, c.by_itself-in-Print.ensures.doing)

pub returns-in-Command-clause-ok : goal.returns-in-Command-clause-ok
returns-in-Command-clause-ok g c = λ w h.
    subst (λ l. IfOk c.choose_command.result (AsksAlone c.args.at.manner c.args.at.number w c.args.at.now (Some (live.Script l))))
    (sym c.in-Command.is) (c.choose_command.ensures w)

pub returns-in-Command-clause-err : goal.returns-in-Command-clause-err
returns-in-Command-clause-err g c =
    subst (λ l. OnErr c.choose_command.result (IsCommand (Some (live.Script l)))) (sym c.in-Command.is)
    (at_a_fault c.choose_command.result (IsCommand (Some (live.Script (line.Command c.in-Command.command)))) (c.in-Command.command, refl))
