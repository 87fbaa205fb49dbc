use Rattle.std.proofs.Common.{sym, subst}
use Rattle.sheet_json.specs.Tellings as reported
use Rattle.tellings.specs.Json.{reply_json}
use Rattle.tellings.specs.Voice.{WroteLine}
use Rattle.tellings.proofs.in_json.write_reply.Goals as goal

pub returns-in-Done-clause-wrote : goal.returns-in-Done-clause-wrote
returns-in-Done-clause-wrote g c = subst (λ x. WroteLine c.write_made.result
    (g.W.Write.contents c.args.writer.now) (g.W.Write.contents c.write_made.new.writer) (reply_json c.args.line x)) (sym c.in-Done.is)
    (c.write_made.ensures.wrote (reported.reply c.args.line reported.done) c.done_value.ensures)

pub returns-in-Field-clause-wrote : goal.returns-in-Field-clause-wrote
returns-in-Field-clause-wrote g c = subst (λ x. WroteLine c.write_made-in-Field.result
    (g.W.Write.contents c.args.writer.now) (g.W.Write.contents c.write_made-in-Field.new.writer) (reply_json c.args.line x)) (sym c.in-Field.is)
    (c.write_made-in-Field.ensures.wrote (reported.reply c.args.line (reported.made c.in-Field.id)) c.made_value.ensures)

pub returns-in-Asked-clause-wrote : goal.returns-in-Asked-clause-wrote
returns-in-Asked-clause-wrote g c = subst (λ x. WroteLine c.write_made-in-Asked.result
    (g.W.Write.contents c.args.writer.now) (g.W.Write.contents c.write_made-in-Asked.new.writer) (reply_json c.args.line x)) (sym c.in-Asked.is)
    (c.write_made-in-Asked.ensures.wrote (reported.reply c.args.line (reported.asked c.in-Asked.life)) c.asked_value.ensures)

pub returns-in-Refused-clause-wrote : goal.returns-in-Refused-clause-wrote
returns-in-Refused-clause-wrote g c = subst (λ x. WroteLine c.write_made-in-Refused.result
    (g.W.Write.contents c.args.writer.now) (g.W.Write.contents c.write_made-in-Refused.new.writer) (reply_json c.args.line x)) (sym c.in-Refused.is)
    (c.write_made-in-Refused.ensures.wrote (reported.reply c.args.line (reported.refused c.in-Refused.why)) c.refused_value.ensures)

pub returns-in-Nothing-clause-wrote : goal.returns-in-Nothing-clause-wrote
returns-in-Nothing-clause-wrote g c = subst (λ x. WroteLine c.write_made-in-Nothing.result
    (g.W.Write.contents c.args.writer.now) (g.W.Write.contents c.write_made-in-Nothing.new.writer) (reply_json c.args.line x)) (sym c.in-Nothing.is)
    (c.write_made-in-Nothing.ensures.wrote (reported.reply c.args.line reported.nothing) c.nothing_value.ensures)
