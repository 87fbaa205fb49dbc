use Rattle.std.proofs.Common.{sym, subst}
use Rattle.std.proofs.Common.{codes}
use Rattle.worksheet.specs.declared.refusal.Refusal.TheVariants as refusal
use Rattle.sheet_json.specs.Tellings as reported
use Rattle.tellings.specs.Json.{interrupt_json}
use Rattle.tellings.specs.Voice.{WroteLine}
use Rattle.tellings.proofs.notes_json.write_interrupt.Goals as goal

pub returns-in-NoSession-clause-wrote : goal.returns-in-NoSession-clause-wrote
returns-in-NoSession-clause-wrote g c = subst (λ x. WroteLine c.write_made.result
    (g.W.Write.contents c.args.writer.now) (g.W.Write.contents c.write_made.new.writer) (interrupt_json c.args.line x)) (sym c.in-NoSession.is)
    (c.write_made.ensures.wrote (reported.reply c.args.line (reported.refused refusal.NoSession)) c.refused_value.ensures)

pub returns-in-Idle-clause-wrote : goal.returns-in-Idle-clause-wrote
returns-in-Idle-clause-wrote g c = subst (λ x. WroteLine c.write_made-in-Idle.result
    (g.W.Write.contents c.args.writer.now) (g.W.Write.contents c.write_made-in-Idle.new.writer) (interrupt_json c.args.line x)) (sym c.in-Idle.is)
    (c.write_made-in-Idle.ensures.wrote (reported.reply c.args.line (reported.interrupted (codes "idle"))) c.interrupted_value.ensures)

pub returns-in-Sent-clause-wrote : goal.returns-in-Sent-clause-wrote
returns-in-Sent-clause-wrote g c = subst (λ x. WroteLine c.write_made-in-Sent.result
    (g.W.Write.contents c.args.writer.now) (g.W.Write.contents c.write_made-in-Sent.new.writer) (interrupt_json c.args.line x)) (sym c.in-Sent.is)
    (c.write_made-in-Sent.ensures.wrote (reported.reply c.args.line (reported.interrupted (codes "sent"))) c.interrupted_value-in-Sent.ensures)

pub returns-in-Failed-clause-wrote : goal.returns-in-Failed-clause-wrote
returns-in-Failed-clause-wrote g c = subst (λ x. WroteLine c.write_made-in-Failed.result
    (g.W.Write.contents c.args.writer.now) (g.W.Write.contents c.write_made-in-Failed.new.writer) (interrupt_json c.args.line x)) (sym c.in-Failed.is)
    (c.write_made-in-Failed.ensures.wrote (reported.reply c.args.line (reported.interrupted (codes "failed"))) c.interrupted_value-in-Failed.ensures)
