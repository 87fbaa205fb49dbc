use Rattle.std.proofs.lemmas.Result.{IfOk-weaker}
use Rattle.serde_json.specs.View.{view}
use Rattle.sheet_json.proofs.NoFloats.{reported_has_none, reported_line}
use Rattle.sheet_json.proofs.lines.reported_bytes.Goals as goal

pub returns : goal.returns
returns c = λ t is.
    IfOk-weaker c.line_bytes.result _ _ (λ bytes text. reported_line t (view c.args.value.now) bytes.items is (text (reported_has_none t (view c.args.value.now) is))) c.line_bytes.ensures.text
