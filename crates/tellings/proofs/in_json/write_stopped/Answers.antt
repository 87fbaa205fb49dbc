use Rattle.std.proofs.Common.{sym, subst}
use Rattle.sheet_json.specs.Sheets.{telling_line}
use Rattle.sheet_json.specs.Tellings as reported
use Rattle.tellings.specs.Json.{stopped_with}
use Rattle.tellings.specs.Voice.{WroteLine}
use Rattle.tellings.proofs.in_json.write_stopped.Goals as goal

pub returns-in-None-clause-wrote : goal.returns-in-None-clause-wrote
returns-in-None-clause-wrote g c = subst (λ x. WroteLine c.write_made.result
    (g.W.Write.contents c.args.writer.now) (g.W.Write.contents c.write_made.new.writer) (stopped_with c.args.line c.args.child.now x))
    (sym c.in-None.is) (c.write_made.ensures.wrote (reported.reply c.args.line reported.done) c.done_value.ensures)

pub returns-in-Some-clause-wrote : goal.returns-in-Some-clause-wrote
returns-in-Some-clause-wrote g c =
    subst (λ x. WroteLine c.write_made-in-Some.result (g.W.Write.contents c.args.writer.now) (g.W.Write.contents c.write_made-in-Some.new.writer)
    (stopped_with c.args.line c.args.child.now x)) (sym c.in-Some.is)
    (subst (λ name. WroteLine c.write_made-in-Some.result (g.W.Write.contents c.args.writer.now) (g.W.Write.contents c.write_made-in-Some.new.writer)
    (telling_line (reported.stopped c.args.line name c.args.child.now.life c.in-Some.ended.lost))) c.as_slice-name.ensures.bytes
    (c.write_made-in-Some.ensures.wrote (reported.stopped c.args.line c.as_slice-name.result.now c.args.child.now.life c.in-Some.ended.lost) c.stopped_value-value.ensures))
