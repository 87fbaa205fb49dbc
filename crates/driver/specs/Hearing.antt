-- What lives have that are received from one after another. (docs/dev/EDGE.md, "A group".)
use Rattle.std.specs.Prelude.{◌≡◌, ◌⊎◌, ◌≤◌, ℕ, List, [], ◌∷◌, ◌++◌, Option, Some, None, length}
use Rattle.host_events.specs.declared.event.Event.{Event}
use Rattle.child_calls.specs.declared.seat.Seat.{Seat}
use Rattle.child_edge.specs.Together.{HearsOne}
use Rattle.arrivals.specs.Watching.{asked}
use Rattle.arrivals.specs.declared.sources.Input.TheVariants as input
use Rattle.arrivals.specs.declared.sources.Woken.{Woken}
use Rattle.arrivals.specs.declared.sources.Woken.TheVariants as woken
use Rattle.driver.specs.Place.{SourceRules}

-- A life was received from and gave an event; after others a watch that holds the input back named it first.
pub record HearsNext {C : Type 0} (R : SourceRules C) (c : C) (event : Event) (d : C) : Type 0 where
  pub seat : Seat
  pub mid : C
  pub named : R.wakes c (asked input.HeldBack None) (Some (woken.Life seat)) mid
  pub hears : HearsOne R.after seat mid event d

-- From these sources to those, one life after another was named and received from, and gave these events.
pub data HeardAfter {C : Type 0} (R : SourceRules C) (c : C) : List Event → C → Type 0 where
  no_other : HeardAfter R c [] c
  one_more : (events before : List Event) (event : Event) (mid d : C) → HeardAfter R c before mid → HearsNext R mid event d → events ≡ before ++ event ∷ [] → HeardAfter R c events d

-- The sources were left alone, or they were watched once more and nothing that they have was received.
abbrev pub WatchedAgain : {C : Type 0} → SourceRules C → C → C → Type 0
WatchedAgain R c d = (d ≡ c) ⊎ ((woken : Option Woken) × R.wakes c (asked input.HeldBack None) woken d)

-- This life gave an event, and so many others at most that were ready gave the later ones.
pub record HeardUpTo {C : Type 0} (R : SourceRules C) (seat : Seat) (most : ℕ) (c : C) (events : List Event) (d : C) : Type 0 where
  pub first : Event
  pub mid : C
  pub later : List Event
  pub hears : HearsOne R.after seat c first mid
  pub others : HeardAfter R mid later d
  pub are : events ≡ first ∷ later
  pub few : length later ≤ most

-- That came, and then the sources may have been watched once more.
abbrev pub HeardReady : {C : Type 0} → SourceRules C → Seat → ℕ → C → List Event → C → Type 0
HeardReady {C = C} R seat most c events d = (last : C) × HeardUpTo R seat most c events last × WatchedAgain R last d
