-- What gathering lines gives that are there together.
use Rattle.std.specs.Prelude.{◌≡◌, ◌⊎◌, ℕ, ◌≤◌, true, List, [], ◌∷◌, ◌++◌, length, map}
use Rattle.std.specs.List.{AllByRecursion}
use Rattle.host_events.specs.declared.event.Event.{Event}
use Rattle.arrivals.specs.Lines.{whole}
use Rattle.arrivals.specs.Held.{Held, Readiness, left_with}
use Rattle.sheet_text.specs.Script.{line_of}
use Rattle.live.specs.LineEvents.{line_events, lines_events}
use Rattle.live.specs.Saying.{SaysGrouped}

-- The next line was there and was given. It says a command that may be in a group, and its event was put after the others.
abbrev pub GathersOne : Held → Held → List Event → List Event → Type 0
GathersOne old new before following =
    (l : List ℕ) × SaysGrouped l × (following ≡ before ++ line_events (line_of l)) × Readiness old true × ((more : List ℕ) → left_with old more ≡ whole l ∷ left_with new more)

-- These lines were there and were given, one after another. Each says such a command, and these are their events.
pub record Gathered (old new : Held) (events : List Event) : Type 0 where
  pub given : List (List ℕ)
  pub each : AllByRecursion SaysGrouped given
  pub are : events ≡ lines_events given
  pub gives : (more : List ℕ) → left_with old more ≡ map whole given ++ left_with new more
  pub begins : ((given ≡ []) × (new ≡ old)) ⊎ ((1 ≤ length given) × Readiness old true)
