-- What the next action of an agenda of lines is about.
use Rattle.std.specs.Prelude.{◌≡◌, ◌⊎◌, ℕ, Bool, true, false, Option, Some, None}
use Rattle.arrivals.specs.declared.sources.Woken.{Woken}
use Rattle.arrivals.specs.declared.sources.Woken.TheVariants as woken
use Rattle.live.specs.declared.holding.Hold.{Hold}
use Rattle.live.specs.declared.holding.Hold.TheVariants as hold
use Rattle.live.specs.Saying.{IsLimited, IsTimed, StallsAtEnd}
use Rattle.live.specs.Arrivals.{IsOver}
use Rattle.line_agenda.specs.declared.matter.Matter.{Matter}
use Rattle.line_agenda.specs.declared.matter.Matter.TheVariants as matter

-- The time of a wait is over: a watch returned it, or none returned anything and the clock reads it.
abbrev pub TimeIsOver : Hold → Option Woken → ℕ → Type 0
TimeIsOver held due now = (due ≡ Some woken.TimeOver) ⊎ ((due ≡ None) × IsOver held now)

-- What is next, where lines come first or not, by the wait, by what a watch returned, and by what the clock reads. The input is next where a watch
-- returned it, or where lines come first and none returned anything; and in both cases only while no wait holds it back.
abbrev pub IsMatter : Bool → Hold → Option Woken → ℕ → Matter → Type 0
IsMatter first held due now matter.Untimely = ((due ≡ Some woken.Input) × (held ≡ hold.Free → ⊥)) ⊎ ((due ≡ Some woken.TimeOver) × (IsTimed held → ⊥))
IsMatter first held due now matter.Watch = (due ≡ None) × (IsOver held now → ⊥) × (first ≡ true → held ≡ hold.Free → ⊥)
IsMatter first held due now matter.Input = (held ≡ hold.Free) × ((due ≡ Some woken.Input) ⊎ ((due ≡ None) × (first ≡ true)))
IsMatter first held due now (matter.Life seat) = due ≡ Some (woken.Life seat)
IsMatter first held due now matter.Limit = IsLimited held × TimeIsOver held due now
IsMatter first held due now matter.Stall = StallsAtEnd held × TimeIsOver held due now

-- the end of a wait by its time
abbrev pub EndsSo : Hold → Matter → Type 0
EndsSo held matter.Untimely = ⊥
EndsSo held matter.Watch = ⊥
EndsSo held matter.Input = ⊥
EndsSo held (matter.Life seat) = ⊥
EndsSo held matter.Limit = IsLimited held
EndsSo held matter.Stall = StallsAtEnd held

-- what is next where no watch returned anything
abbrev pub IsUnwatched : Bool → Hold → ℕ → Matter → Type 0
IsUnwatched first held now m = IsMatter first held None now m

-- how many lives may be taken with another: a strict input takes them one by one
abbrev pub others : Bool → ℕ
others true = 0
others false = 1023
