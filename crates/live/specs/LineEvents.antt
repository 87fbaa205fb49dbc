-- The events that lines ask for.
use Rattle.std.specs.Prelude.{ℕ, List, [], ◌∷◌, ◌++◌, Option, Some, None}
use Rattle.host_events.specs.declared.event.Event.{Event}
use Rattle.host_events.specs.declared.event.Event.TheVariants as event
use Rattle.sheet_text.specs.Script.{line_of}
use Rattle.sheet_text.specs.declared.script.ScriptLine.{ScriptLine}
use Rattle.sheet_text.specs.declared.script.ScriptLine.TheVariants as line

-- the event that a line asks for, where it is a command
abbrev pub line_events : Option ScriptLine → List Event
line_events None = []
line_events (Some line.Skip) = []
line_events (Some (line.Command c)) = event.Command c ∷ []
line_events (Some line.Wait) = []
line_events (Some line.Print) = []

-- the events that lines ask for, in order
abbrev pub lines_events : List (List ℕ) → List Event
lines_events [] = []
lines_events (l ∷ ls) = line_events (line_of l) ++ lines_events ls
