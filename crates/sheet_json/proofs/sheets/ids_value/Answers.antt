use Rattle.std.proofs.Common.{◌∙◌}
use Rattle.std.proofs.lemmas.Result.{IfOk-weaker}
use Rattle.sheet_json.proofs.Wholes.{ids_are}
use Rattle.sheet_json.proofs.sheets.ids_value.Goals as goal

pub returns : goal.returns
returns c = IfOk-weaker c.ids_row.result _ _ (λ value reported. reported ∙ ids_are c.args.sheet.now.contents.fields) c.ids_row.ensures
