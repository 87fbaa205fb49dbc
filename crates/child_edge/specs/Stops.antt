-- The calls that stop lives, of which no event comes.
use Rattle.std.specs.Prelude.{◌≡◌, List, [], ◌∷◌}
use Rattle.child_calls.specs.declared.seat.Seat.{Seat}
use Rattle.child_calls.specs.Calls.{stop, Answer}
use Rattle.child_edge.specs.Faithful.{Relation}

-- each of these lives is stopped by one call, in order, whatever that is answered
abbrev pub Stops : {C : Type 0} → Relation C → List Seat → C → C → Type 0
Stops R [] c d = d ≡ c
Stops {C = C} R (seat ∷ seats) c d = (mid : C) × (a : Answer) × R c (stop seat.name seat.life) a mid × Stops R seats mid d
