use Rattle.std.proofs.Common.{◌∙◌, ap, sym, subst}
use Rattle.std.specs.Prelude.{Some, IfOk, OnErr}
use Rattle.live.specs.Saying.{IsCommand}
use Rattle.line_agenda.specs.Alone.{AsksAlone, BeginsWait}
use Rattle.line_agenda.specs.declared.doing.Doing.TheVariants as doing
use Rattle.line_agenda.proofs.alone.choose.Goals as goal

pub returns-in-Script-clause-ok : goal.returns-in-Script-clause-ok
returns-in-Script-clause-ok g c = λ w h.
    subst (λ l. IfOk c.choose_script.result (AsksAlone c.args.at.manner c.args.at.number w c.args.at.now (Some l)))
    (sym c.in-Script.is) (c.choose_script.ensures.ok w h)

pub returns-in-Script-clause-err : goal.returns-in-Script-clause-err
returns-in-Script-clause-err g c =
    subst (λ l. OnErr c.choose_script.result (IsCommand (Some l))) (sym c.in-Script.is) c.choose_script.ensures.err

pub returns-in-PrintField-clause-ok : goal.returns-in-PrintField-clause-ok
returns-in-PrintField-clause-ok g c = λ w h.
    subst (λ l. AsksAlone c.args.at.manner c.args.at.number w c.args.at.now (Some l) c.by_itself.result)
    (sym c.in-PrintField.is) (c.by_itself.ensures.asks, c.by_itself.ensures.doing ∙ ap (λ wrong. doing.Line wrong) (c.lacks_field.ensures w h))

pub returns-in-WaitFor-clause-ok : goal.returns-in-WaitFor-clause-ok
returns-in-WaitFor-clause-ok g c = λ w h.
    subst (λ l. AsksAlone c.args.at.manner c.args.at.number w c.args.at.now (Some l) c.begin.result)
    (sym c.in-WaitFor.is)
    (subst (λ x. BeginsWait c.args.at.number w x c.begin.result) c.wait_for.ensures (c.begin.ensures w h))

pub returns-in-Interrupt-clause-ok : goal.returns-in-Interrupt-clause-ok
returns-in-Interrupt-clause-ok g c = λ w h.
    subst (λ l. AsksAlone c.args.at.manner c.args.at.number w c.args.at.now (Some l) c.choose_interrupt.result)
    (sym c.in-Interrupt.is) (c.choose_interrupt.ensures w h)

pub returns-in-Export-clause-ok : goal.returns-in-Export-clause-ok
returns-in-Export-clause-ok g c = λ w h.
    subst (λ l. AsksAlone c.args.at.manner c.args.at.number w c.args.at.now (Some l) c.by_itself-in-Export.result)
    (sym c.in-Export.is) (c.by_itself-in-Export.ensures.asks, c.by_itself-in-Export.ensures.doing)

pub returns-in-Begin-clause-ok : goal.returns-in-Begin-clause-ok
returns-in-Begin-clause-ok g c = λ w h.
    subst (λ l. AsksAlone c.args.at.manner c.args.at.number w c.args.at.now (Some l) c.begin_transaction.result) (sym c.in-Begin.is) (c.begin_transaction.ensures w)

pub returns-in-End-clause-ok : goal.returns-in-End-clause-ok
returns-in-End-clause-ok g c = λ w h.
    subst (λ l. AsksAlone c.args.at.manner c.args.at.number w c.args.at.now (Some l) c.bad.result) (sym c.in-End.is) (c.bad.ensures w)
