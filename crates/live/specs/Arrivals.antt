-- Whose turn it may be: what a watch is asked while a wait holds lines back, and what it returns. (docs/dev/EDGE.md, "Live".)
use Rattle.std.specs.Prelude.{ℕ, ◌-◌, ◌≤◌, Bool, false, true, Option, Some, None, IsSomeAnd}
use Rattle.arrivals.specs.Lines.{InputLine, whole, too_long}
use Rattle.arrivals.specs.declared.sources.Input.{Input}
use Rattle.arrivals.specs.declared.sources.Input.TheVariants as input
use Rattle.live.specs.LiveLines.{live_line_of}
use Rattle.live.specs.declared.live_line.LiveLine.{LiveLine}
use Rattle.live.specs.declared.holding.Hold.{Hold}
use Rattle.live.specs.declared.holding.Hold.TheVariants as hold
use Rattle.live.specs.Saying.{time_of}

-- what a line says; one that is too long says nothing that is known
abbrev pub said_by : InputLine → Option LiveLine
said_by (whole bytes) = live_line_of bytes
said_by too_long = None

-- How the input stands where a line is there or not: a wait holds it back.
abbrev pub input_at : Hold → Bool → Input
input_at hold.Free true = input.Ready
input_at hold.Free false = input.Empty
input_at hold.Wait is_there = input.HeldBack
input_at (hold.Until end) is_there = input.HeldBack
input_at (hold.Limited end) is_there = input.HeldBack
input_at (hold.Warned end) is_there = input.HeldBack
input_at hold.Stopped is_there = input.HeldBack

-- For how long a watch may take where the clock reads this: for what is left of a wait's time, and else without a limit.
abbrev pub patience_at : Hold → ℕ → Option ℕ
patience_at hold.Free now = None
patience_at hold.Wait now = None
patience_at (hold.Until end) now = Some (end - now)
patience_at (hold.Limited end) now = Some (end - now)
patience_at (hold.Warned end) now = Some (end - now)
patience_at hold.Stopped now = None

-- a wait has a time, and it is over where the clock reads this
abbrev pub IsOver : Hold → ℕ → Type 0
IsOver held now = IsSomeAnd (time_of held) (λ end. end ≤ now)

-- how many seconds interpreters have that were interrupted
abbrev pub respite : ℕ
respite = 2
