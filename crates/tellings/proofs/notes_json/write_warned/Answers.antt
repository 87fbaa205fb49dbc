use Rattle.std.proofs.Common.{subst}
use Rattle.sheet_json.specs.Sheets.{telling_line}
use Rattle.sheet_json.specs.Tellings as reported
use Rattle.tellings.specs.Voice.{WroteLine}
use Rattle.tellings.proofs.notes_json.write_warned.Goals as goal

pub returns-clause-wrote : goal.returns-clause-wrote
returns-clause-wrote g c =
    subst (λ word. WroteLine c.write_made.result (g.W.Write.contents c.args.writer.now) (g.W.Write.contents c.write_made.new.writer)
    (telling_line (reported.event c.args.seat.name c.args.seat.life (reported.warned word)))) c.outcome.ensures
    (subst (λ name. WroteLine c.write_made.result (g.W.Write.contents c.args.writer.now) (g.W.Write.contents c.write_made.new.writer)
    (telling_line (reported.event name c.args.seat.life (reported.warned c.outcome.result.now)))) c.as_slice.ensures.bytes
    (c.write_made.ensures.wrote (reported.event c.as_slice.result.now c.args.seat.life (reported.warned c.outcome.result.now)) c.warned_value-value.ensures))
