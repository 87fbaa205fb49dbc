-- What comes of one line of a live input. (docs/use/SCRIPT.md, "Live".)
use Rattle.std.specs.Prelude.{◌≡◌, ◌≢◌, ◌⊎◌, ℕ, ◌+◌, ◌-◌, ◌*◌, ◌^◌, not, min, Bool, true, false, List, [], Option, Some, None, IsSome, is_some}
use Rattle.host_events.specs.declared.command.Command.{Command}
use Rattle.host_events.specs.declared.event.Event.TheVariants as event
use Rattle.host_events.specs.declared.reply.Reply.{Reply}
use Rattle.host_events.specs.declared.reply.Reply.TheVariants as reply
use Rattle.session_engine.specs.Gathers.{is_checkpoint}
use Rattle.session_engine.specs.World.{World, sheet_in}
use Rattle.child_edge.specs.Seats.{waits}
use Rattle.worksheet.specs.Checks.{has_field, has_session}
use Rattle.sheet_text.specs.Script.{line_of}
use Rattle.sheet_text.specs.declared.script.ScriptLine.TheVariants as line
use Rattle.live.specs.declared.live_line.LiveLine.{LiveLine}
use Rattle.live.specs.declared.live_line.LiveLine.TheVariants as live
use Rattle.live.specs.declared.holding.Hold.{Hold}
use Rattle.live.specs.declared.holding.Hold.TheVariants as hold

-- What the line asks for isn't there: a field that the worksheet doesn't have, the interpreter of no session, or the end of no transaction.
abbrev pub asks_in_vain : World → LiveLine → Bool
asks_in_vain w (live.Script line.Skip) = false
asks_in_vain w (live.Script (line.Command c)) = false
asks_in_vain w (live.Script line.Wait) = false
asks_in_vain w (live.Script line.Print) = false
asks_in_vain w (live.PrintField id) = not (has_field (sheet_in w) id)
asks_in_vain w (live.WaitFor seconds) = false
asks_in_vain w (live.Interrupt name) = not (has_session (sheet_in w) name)
asks_in_vain w (live.Export format) = false
asks_in_vain w live.Begin = false
asks_in_vain w live.End = true

-- a line that says a command of the host
abbrev pub IsCommand : Option LiveLine → Type 0
IsCommand l = (c : Command) × (l ≡ Some (live.Script (line.Command c)))

-- the line says a command, and not that the journal is rewritten
abbrev pub SaysGrouped : List ℕ → Type 0
SaysGrouped l = (c : Command) × (line_of l ≡ Some (line.Command c)) × (is_checkpoint (event.Command c) ≡ false)

-- the moment at which a wait ends by its time, where it has one
abbrev pub time_of : Hold → Option ℕ
time_of hold.Free = None
time_of hold.Wait = None
time_of (hold.Until end) = Some end
time_of (hold.Limited end) = Some end
time_of (hold.Warned end) = Some end
time_of hold.Stopped = None

-- a wait that ends by its time
abbrev pub IsTimed : Hold → Type 0
IsTimed held = IsSome (time_of held)

-- a wait that is over where its time is: one that names its seconds, or one whose interpreters were interrupted
abbrev pub StallsAtEnd : Hold → Type 0
StallsAtEnd held = (end : ℕ) × ((held ≡ hold.Until end) ⊎ (held ≡ hold.Warned end))

-- a wait at the end of whose time interpreters are interrupted
abbrev pub IsLimited : Hold → Type 0
IsLimited held = (end : ℕ) × (held ≡ hold.Limited end)

-- the moment so many seconds after this one, or the last one that a clock can read
abbrev pub seconds_from : ℕ → ℕ → ℕ
seconds_from now seconds = min (now + seconds * 1000) (2 ^ 64 - 1)

-- a wait goes on as long as an item waits for an answer
abbrev pub WaitGoesOn : Hold → World → Hold → Type 0
WaitGoesOn held w following = ((waits w ≡ []) × (following ≡ hold.Free)) ⊎ ((waits w ≢ []) × (following ≡ held))

-- whether lines are held back
abbrev pub is_held : Hold → Bool
is_held hold.Free = false
is_held hold.Wait = true
is_held (hold.Until end) = true
is_held (hold.Limited end) = true
is_held (hold.Warned end) = true
is_held hold.Stopped = false

-- whether a wait names no seconds and has a time: that of a line, before its interpreters were interrupted or after
abbrev pub has_limit : Hold → Bool
has_limit hold.Free = false
has_limit hold.Wait = false
has_limit (hold.Until end) = false
has_limit (hold.Limited end) = true
has_limit (hold.Warned end) = true
has_limit hold.Stopped = false

-- nothing more is taken where that is so, and else this wait goes on
abbrev pub stop_if : Bool → Hold → Hold
stop_if false held = held
stop_if true held = hold.Stopped

-- something closed: the banner of an interpreter, an answer, or completions
abbrev pub has_closed : Reply → Bool
has_closed reply.Done = false
has_closed (reply.Field id) = false
has_closed (reply.Asked number) = false
has_closed (reply.Refused why) = false
has_closed (reply.Child one) = is_some one.closed
has_closed reply.Nothing = false
