-- Which waits lines begin, by what the clock reads.
use Rattle.std.specs.Prelude.{ℕ, Bool, true, false, Option, Some, None}
use Rattle.sheet_text.specs.declared.script.ScriptLine.TheVariants as line
use Rattle.live.specs.declared.live_line.LiveLine.{LiveLine}
use Rattle.live.specs.declared.live_line.LiveLine.TheVariants as live
use Rattle.live.specs.declared.holding.Hold.{Hold}
use Rattle.live.specs.declared.holding.Hold.TheVariants as hold
use Rattle.live.specs.Saying.{seconds_from}
use Rattle.live.specs.Arrivals.{respite}

-- A wait that names no seconds lasts as long as it takes. Where a line may take so many, its time is over so many after this reading.
abbrev pub untimed : Option ℕ → ℕ → Hold
untimed None now = hold.Wait
untimed (Some seconds) now = hold.Limited (seconds_from now seconds)

-- which wait a line begins
abbrev pub begun : Option ℕ → ℕ → Option LiveLine → Hold
begun limit now None = hold.Free
begun limit now (Some (live.Script line.Skip)) = hold.Free
begun limit now (Some (live.Script (line.Command command))) = hold.Free
begun limit now (Some (live.Script line.Wait)) = untimed limit now
begun limit now (Some (live.Script line.Print)) = hold.Free
begun limit now (Some (live.PrintField id)) = hold.Free
begun limit now (Some (live.WaitFor seconds)) = hold.Until (seconds_from now seconds)
begun limit now (Some (live.Interrupt name)) = hold.Free
begun limit now (Some (live.Export format)) = hold.Free
begun limit now (Some live.Begin) = hold.Free
begun limit now (Some live.End) = hold.Free

-- a wait stays as it is, or begins again
abbrev pub begun_again : Option ℕ → ℕ → Bool → Hold → Hold
begun_again limit now false held = held
begun_again limit now true held = untimed limit now

-- the wait after interpreters were interrupted
abbrev pub warned : ℕ → Hold
warned now = hold.Warned (seconds_from now respite)
