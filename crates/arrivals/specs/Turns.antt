-- Sources whose turns are a list.
use Rattle.std.specs.Prelude.{◌≡◌, ℕ, Bool, true, false, List, Option, Some, None, position, slice_get, is_some, remove}
use Rattle.child_calls.specs.Calls.{Call, Answer}
use Rattle.child_calls.specs.Parts.{ByParts}
use Rattle.child_calls.specs.declared.scripted.Part.{Part}
use Rattle.arrivals.specs.declared.sources.Input.{Input}
use Rattle.arrivals.specs.declared.sources.Input.TheVariants as input
use Rattle.arrivals.specs.declared.sources.Woken.{Woken}
use Rattle.arrivals.specs.declared.sources.Woken.TheVariants as woken
use Rattle.arrivals.specs.Watching.{Asked}

-- the children's parts, and whose turn it is, in order
pub record TurnList : Type 0 where
  pub parts : List Part
  pub turns : List Woken

abbrev pub is_wanted : Input → Bool
is_wanted input.HeldBack = false
is_wanted input.Empty = true
is_wanted input.Ready = true

-- whether this may come where that was asked
abbrev pub may_come : Asked → Woken → Bool
may_come a woken.Input = is_wanted a.input
may_come a (woken.Life seat) = true
may_come a woken.TimeOver = is_some a.patience

abbrev pub after_patience : Option ℕ → Option Woken
after_patience None = None
after_patience (Some millis) = Some woken.TimeOver

abbrev pub after_input : Input → Option ℕ → Option Woken
after_input input.HeldBack patience = after_patience patience
after_input input.Empty patience = Some woken.Input
after_input input.Ready patience = Some woken.Input

-- after the list: the input where it is wanted, else that the time is over where there is a limit, else a fault
abbrev pub after_turns : Asked → Option Woken
after_turns a = after_input a.input a.patience

abbrev pub AtTurn : Option ℕ → List Woken → Asked → Option Woken → List Woken → Type 0
AtTurn None ws a reported vs = (reported ≡ after_turns a) × (vs ≡ ws)
AtTurn (Some i) ws a reported vs = (reported ≡ slice_get ws i) × (vs ≡ remove ws i)

-- The first turn that may come is returned and taken off. No child is touched.
abbrev pub ByTurns : TurnList → Asked → Option Woken → TurnList → Type 0
ByTurns s a reported t = (t.parts ≡ s.parts) × AtTurn (position (may_come a) s.turns) s.turns a reported t.turns

-- A call on a child is answered by its part, and no turn is taken.
abbrev pub ByChild : TurnList → Call → Answer → TurnList → Type 0
ByChild s c a t = ByParts s.parts c a t.parts × (t.turns ≡ s.turns)
