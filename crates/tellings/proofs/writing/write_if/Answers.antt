use Rattle.std.proofs.Common.{◌≡◌, Ok, ap, subst, ◌∙◌}
use Rattle.std.specs.Prelude.{IfOk, option_map}
use Rattle.serde_json.specs.View.{view}
use Rattle.sheet_json.specs.Objects.{event_data}
use Rattle.tellings.proofs.Voices.{line_if}
use Rattle.tellings.proofs.writing.write_if.Goals as goal

pub returns-in-Ok-Some-clause-wrote : goal.returns-in-Ok-Some-clause-wrote
returns-in-Ok-Some-clause-wrote g c = λ session life e h.
    line_if c.write_line.result (g.W.Write.contents c.args.writer.now) (g.W.Write.contents c.write_line.new.writer) (view c.in-Ok-Some.value) session life e
    (subst (λ r. IfOk r (λ value. option_map view value ≡ option_map (event_data session life) e)) (c.in-Ok-Some.is ∙ ap (λ x. Ok x) c.in-Ok-Some.field-0-is) h) c.write_line.ensures.wrote
