-- What a watch of sources is asked and may answer.
use Rattle.std.specs.Prelude.{ℕ, Option, Some, None}
use Rattle.arrivals.specs.declared.sources.Input.{Input}
use Rattle.arrivals.specs.declared.sources.Input.TheVariants as input
use Rattle.arrivals.specs.declared.sources.Woken.{Woken}
use Rattle.arrivals.specs.declared.sources.Woken.TheVariants as woken

-- how the input stands, and for how many milliseconds at most it waits, if there is a limit
pub record Asked : Type 0 where
  pub input : Input
  pub patience : Option ℕ

abbrev pub asked : Input → Option ℕ → Asked
asked input patience = record { input = input; patience = patience }

-- an input that is held back doesn't come
abbrev pub InputMayCome : Input → Type 0
InputMayCome input.HeldBack = ⊥
InputMayCome input.Empty = Unit {0}
InputMayCome input.Ready = Unit {0}

-- without a limit no time is over
abbrev pub TimeMayCome : Option ℕ → Type 0
TimeMayCome None = ⊥
TimeMayCome (Some millis) = Unit {0}

-- this may come where that was asked
abbrev pub MayCome : Asked → Woken → Type 0
MayCome a woken.Input = InputMayCome a.input
MayCome a (woken.Life seat) = Unit {0}
MayCome a woken.TimeOver = TimeMayCome a.patience
