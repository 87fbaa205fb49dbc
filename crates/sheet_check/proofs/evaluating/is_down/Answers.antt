use Rattle.std.proofs.Common.{◌≡◌, ◌∙◌, Bool, Option, Some, None, ap, false, option_map, refl, sym, true}
use Rattle.std.specs.Prelude.{is_some, not}
use Rattle.session_engine.specs.World.{Going, life_of}
use Rattle.child_edge.specs.Seats.{life_view}
use Rattle.sheet_check.proofs.evaluating.is_down.Goals as goal

none-viewed : (life : Option Going) → not (is_some (option_map life_view life)) ≡ not (is_some life)
none-viewed None = refl
none-viewed (Some life) = refl

turned : (some none : Bool) → some ≡ not none → none ≡ not some
turned some true is = sym (ap not is)
turned some false is = sym (ap not is)

pub returns : goal.returns
returns g c = λ w h. turned _ _ c.is_none.ensures ∙ ap (λ life. not (is_some life)) (c.life.ensures.life w h) ∙ none-viewed (life_of w c.args.session)
