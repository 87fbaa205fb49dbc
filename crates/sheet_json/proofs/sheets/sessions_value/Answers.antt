use Rattle.std.proofs.Common.{◌∙◌}
use Rattle.std.proofs.lemmas.Result.{IfOk-weaker}
use Rattle.sheet_json.proofs.Wholes.{sessions_are}
use Rattle.sheet_json.proofs.sheets.sessions_value.Goals as goal

pub returns : goal.returns
returns c = IfOk-weaker c.sessions_row.result _ _ (λ value reported. reported ∙ sessions_are c.args.sheet.now.contents.sessions) c.sessions_row.ensures
