-- Lives that were heard one after another.
use Rattle.std.proofs.Common.{◌≡◌, ℕ, ◌+◌, ◌≤◌, List, [], ◌∷◌, ◌++◌, refl, ap, ◌∙◌, length-append, arith}
use Rattle.host_events.specs.declared.event.Event.{Event}
use Rattle.child_calls.specs.declared.seat.Seat.{Seat}
use Rattle.child_edge.specs.Together.{HearsOne}
use Rattle.driver.specs.Place.{SourceRules}
use Rattle.driver.specs.Hearing.{HeardUpTo, HearsNext, no_other, one_more}

module _ {C : Type 0} (R : SourceRules C) (seat : Seat) where
  pub heard_first : (c d : C) (first : Event) (events : List Event) → HearsOne R.after seat c first d → events ≡ first ∷ [] → HeardUpTo R seat 0 c events d
  heard_first c d first events hears are = record { first = first; mid = d; later = []; hears = hears; others = no_other; are = are; few = omega arith }

  pub heard_more : (n : ℕ) (c d e : C) (before after : List Event) (event : Event) → HeardUpTo R seat n c before d → HearsNext R d event e → after ≡ before ++ event ∷ [] → HeardUpTo R seat (n + 1) c after e
  heard_more n c d e before after event so next are = record {
    first = so.first;
    mid = so.mid;
    later = so.later ++ event ∷ [];
    hears = so.hears;
    others = one_more (so.later ++ event ∷ []) so.later event d e so.others next refl;
    are = are ∙ ap (λ (l : List Event). l ++ event ∷ []) so.are;
    few = let more = length-append so.later (event ∷ []) in omega (arith, so.few, more);
  }

  -- so many at most are as many more at most
  pub heard_few : (n m : ℕ) (c d : C) (events : List Event) → n ≤ m → HeardUpTo R seat n c events d → HeardUpTo R seat m c events d
  heard_few n m c d events fewer so = record { first = so.first; mid = so.mid; later = so.later; hears = so.hears; others = so.others; are = so.are; few = omega (arith, so.few, fewer) }
