use Rattle.std.proofs.Common.{◌∙◌, ◌-◌, ℕ, Bool, ap}
use Rattle.sheet_json.specs.declared.checks.Took.{Took}
use Rattle.sheet_check.specs.Evaluated.{came_if, shown_in}
use Rattle.sheet_check.proofs.evaluating.evaluate.Goals as goal

abbrev took_of : ℕ → Bool → Took
took_of millis started = record { millis = millis; started = started }

pub returns-in-Ok-clause-ok : goal.returns-in-Ok-clause-ok
returns-in-Ok-clause-ok g c = λ w h.
    let q = c.in-Ok.ensures.ok w h in
    let t = q.0.0.0 in (
      t,
      record {
        marks = c.evaluate_alone.new.driver.sink.kept;
        driven = q.0.0.1;
        remembered = q.0.1;
        came_is = ap (λ came. came_if came (shown_in t c.args.field.now.id)) (c.came_of.ensures.there ∙ q.1);
        begun = c.now-begun.result;
        reads_begun = c.now-begun.ensures;
        ended = c.now.result;
        reads_ended = c.now.ensures;
        took_is = c.came_of.ensures.took ∙ ap (λ started. took_of (c.now.result - c.now-begun.result) started) (c.is_down-started.ensures w h);
      },
      q.0.0.2,
    )
