use Rattle.std.proofs.Common.{◌∙◌, None, Some, List, Option, ap, sym, ℕ, subst}
use Rattle.std.specs.Prelude.{option_map}
use Rattle.sheet_json.specs.Sheets.{telling_line}
use Rattle.sheet_json.specs.Tellings as reported
use Rattle.tellings.specs.Json.{text_reported}
use Rattle.tellings.specs.Voice.{WroteLine}
use Rattle.tellings.proofs.exports.write_exported.Goals as goal

pub returns-in-Ok-None-clause-wrote : goal.returns-in-Ok-None-clause-wrote
returns-in-Ok-None-clause-wrote g c =
    subst (λ (name : List ℕ). WroteLine c.write_made.result (g.W.Write.contents c.args.writer.now) (g.W.Write.contents c.write_made.new.writer)
    (telling_line (reported.exported c.args.line name (text_reported c.args.format c.args.sheet.now.contents)))) c.format_name-name.ensures.name
    (subst (λ (text : Option (List ℕ)). WroteLine c.write_made.result
    (g.W.Write.contents c.args.writer.now) (g.W.Write.contents c.write_made.new.writer)
    (telling_line (reported.exported c.args.line c.format_name-name.result.now text)))
    (ap (λ x. option_map (λ bytes. bytes.items) x) (sym c.in-Ok-None.field-0-is) ∙ c.in-Ok-None.ensures.ok)
    (c.write_made.ensures.wrote (reported.exported c.args.line c.format_name-name.result.now None) c.exported_value.ensures))

pub returns-in-Ok-Some-clause-wrote : goal.returns-in-Ok-Some-clause-wrote
returns-in-Ok-Some-clause-wrote g c =
    subst (λ (name : List ℕ). WroteLine c.write_made-in-Ok-Some.result
    (g.W.Write.contents c.args.writer.now) (g.W.Write.contents c.write_made-in-Ok-Some.new.writer)
    (telling_line (reported.exported c.args.line name (text_reported c.args.format c.args.sheet.now.contents)))) c.format_name-name.ensures.name
    (subst (λ (text : Option (List ℕ)). WroteLine c.write_made-in-Ok-Some.result
    (g.W.Write.contents c.args.writer.now) (g.W.Write.contents c.write_made-in-Ok-Some.new.writer)
    (telling_line (reported.exported c.args.line c.format_name-name.result.now text)))
    (ap (λ x. Some x) c.as_slice.ensures.value ∙ ap (λ x. option_map (λ bytes. bytes.items) x) (sym c.in-Ok-Some.field-0-is) ∙ c.in-Ok-Some.ensures.ok)
    (c.write_made-in-Ok-Some.ensures.wrote (reported.exported c.args.line c.format_name-name.result.now (Some c.as_slice.result.now)) c.exported_value-value.ensures))
