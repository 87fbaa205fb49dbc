use Rattle.std.proofs.Common.{sym, subst}
use Rattle.std.specs.Prelude.{option_map}
use Rattle.sheet_json.specs.Sheets.{telling_line}
use Rattle.sheet_json.specs.Tellings as reported
use Rattle.tellings.specs.Json.{event_line}
use Rattle.tellings.specs.Voice.{WroteLine}
use Rattle.tellings.proofs.in_json.write_default.Goals as goal

pub returns-in-Some-clause-wrote : goal.returns-in-Some-clause-wrote
returns-in-Some-clause-wrote g c =
    let child = c.args.child.now in
    subst (λ x. WroteLine c.write_made.result (g.W.Write.contents c.args.writer.now) (g.W.Write.contents c.write_made.new.writer)
    (event_line child.name child.life (option_map (λ text. reported.input text) x))) (sym c.in-Some.is)
    (subst (λ name. WroteLine c.write_made.result (g.W.Write.contents c.args.writer.now) (g.W.Write.contents c.write_made.new.writer)
    (telling_line (reported.event name child.life (reported.input c.in-Some.text)))) c.as_slice-name.ensures.bytes
    (subst (λ text. WroteLine c.write_made.result (g.W.Write.contents c.args.writer.now) (g.W.Write.contents c.write_made.new.writer)
    (telling_line (reported.event c.as_slice-name.result.now child.life (reported.input text)))) c.as_slice.ensures
    (c.write_made.ensures.wrote (reported.event c.as_slice-name.result.now child.life (reported.input c.as_slice.result.now)) c.default_value.ensures)))
