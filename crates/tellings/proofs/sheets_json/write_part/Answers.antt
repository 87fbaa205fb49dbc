use Rattle.std.proofs.Common.{subst}
use Rattle.sheet_json.specs.Sheets.{telling_line}
use Rattle.sheet_json.specs.Shown.{field_reported}
use Rattle.sheet_json.specs.Tellings as reported
use Rattle.tellings.specs.Voice.{WroteLine}
use Rattle.tellings.proofs.sheets_json.write_part.Goals as goal

pub returns-clause-wrote : goal.returns-clause-wrote
returns-clause-wrote g c = λ w h.
    subst (λ waits. WroteLine c.write_made.result (g.W.Write.contents c.args.writer.now) (g.W.Write.contents c.write_made.new.writer)
    (telling_line (reported.part c.args.line (field_reported waits c.args.field.now)))) (c.is_waiting-waits.ensures w h)
    (c.write_made.ensures.wrote (reported.part c.args.line (field_reported c.is_waiting-waits.result c.args.field.now)) c.part_value.ensures)
