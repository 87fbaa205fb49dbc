use Rattle.std.proofs.Common.{◌∙◌, ap, subst}
use Rattle.worksheet.specs.Checks.{field_in}
use Rattle.worksheet.specs.declared.refusal.Refusal.TheVariants as refusal
use Rattle.sheet_json.specs.Sheets.{telling_line}
use Rattle.sheet_json.specs.Shown.{field_reported}
use Rattle.sheet_json.specs.Tellings as reported
use Rattle.tellings.specs.Json.{field_json}
use Rattle.tellings.specs.Voice.{WroteLine}
use Rattle.tellings.proofs.sheets_json.write_field.Goals as goal

pub returns-in-Some-clause-wrote : goal.returns-in-Some-clause-wrote
returns-in-Some-clause-wrote g c = λ w h.
    subst (λ found. WroteLine c.write_made.result (g.W.Write.contents c.args.writer.now) (g.W.Write.contents c.write_made.new.writer)
    (field_json c.args.line w found)) (c.in-Some.ensures ∙ ap (λ s. field_in s.fields c.args.id) (c.sheet.ensures.stands w h))
    (subst (λ waits. WroteLine c.write_made.result (g.W.Write.contents c.args.writer.now) (g.W.Write.contents c.write_made.new.writer)
    (telling_line (reported.field c.args.line (field_reported waits c.in-Some.field.now)))) (c.is_waiting-waits.ensures w h)
    (c.write_made.ensures.wrote (reported.field c.args.line (field_reported c.is_waiting-waits.result c.in-Some.field.now)) c.asked_field_value.ensures))

pub returns-in-None-clause-wrote : goal.returns-in-None-clause-wrote
returns-in-None-clause-wrote g c = λ w h.
    subst (λ found. WroteLine c.write_made-in-None.result (g.W.Write.contents c.args.writer.now) (g.W.Write.contents c.write_made-in-None.new.writer)
    (field_json c.args.line w found)) (c.in-None.ensures ∙ ap (λ s. field_in s.fields c.args.id) (c.sheet.ensures.stands w h))
    (c.write_made-in-None.ensures.wrote (reported.reply c.args.line (reported.refused refusal.NoField)) c.refused_value.ensures)
