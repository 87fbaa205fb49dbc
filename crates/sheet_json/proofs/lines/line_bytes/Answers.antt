use Rattle.std.proofs.Common.{◌++◌, ◌∷◌, [], ap, ◌∙◌}
use Rattle.serde_json.specs.View.{view}
use Rattle.serde_json.specs.Written.{compact_text}
use Rattle.sheet_json.proofs.Within.{text_within}
use Rattle.sheet_json.proofs.lines.line_bytes.Goals as goal

pub returns-clause-within : goal.returns-clause-within
returns-clause-within c =
    λ none counts. (
      compact_text (view c.args.value.now),
      c.in_ok-push.ensures.items ∙ ap (λ t. t ++ 10 ∷ []) (c.in_ok-bytes.ensures.text none),
      text_within (view c.args.value.now) counts,
    )
