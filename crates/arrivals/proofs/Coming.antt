-- What may come where it is returned.
use Rattle.std.proofs.Common.{◌≡◌, ℕ, true, List, Option, Some, None, sym, ap, ◌∙◌, position, get_or}
use Rattle.std.specs.Prelude.{is_some}
use Rattle.std.proofs.lemmas.List.Quantifiers.{position-Some}
use Rattle.arrivals.specs.declared.sources.Input.{Input}
use Rattle.arrivals.specs.declared.sources.Input.TheVariants as input
use Rattle.arrivals.specs.declared.sources.Woken.{Woken}
use Rattle.arrivals.specs.declared.sources.Woken.TheVariants as woken
use Rattle.arrivals.specs.Watching.{Asked, InputMayCome, MayCome, TimeMayCome}
use Rattle.arrivals.specs.Turns.{is_wanted, may_come}

come-input : (i : Input) → is_wanted i ≡ true → InputMayCome i
come-input input.HeldBack e = absurd cc
come-input input.Empty e = tt
come-input input.Ready e = tt

come-time : (p : Option ℕ) → is_some p ≡ true → TimeMayCome p
come-time None e = absurd cc
come-time (Some millis) e = tt

come : (a : Asked) (w : Woken) → may_come a w ≡ true → MayCome a w
come a woken.Input e = come-input a.input e
come a (woken.Life seat) e = tt
come a woken.TimeOver e = come-time a.patience e

-- the first turn that may come may come
pub first-comes : (a : Asked) (turns items : List Woken) (at : ℕ) (w : Woken) → Some at ≡ position (may_come a) turns → turns ≡ items → w ≡ get_or items at w → MayCome a w
first-comes a turns items at w found same is =
    let first = position-Some (may_come a) items at w (ap (position (may_come a)) (sym same) ∙ sym found) in
    come a w (ap (may_come a) is ∙ first.1)
