-- Which lines of a script are taken as one group. (docs/use/SCRIPT.md.)
use Rattle.std.specs.Prelude.{◌≡◌, ℕ, Bool, true, false, not, List, ◌++◌, Option, Some, None, is_some}
use Rattle.std.specs.List.{AllByRecursion}
use Rattle.host_events.specs.Commands.{op_of}
use Rattle.host_events.specs.declared.event.Event.{Event}
use Rattle.sheet_text.specs.Script.{line_of}
use Rattle.sheet_text.specs.declared.script.ScriptLine.{ScriptLine}
use Rattle.sheet_text.specs.declared.script.ScriptLine.TheVariants as line
use Rattle.live.specs.LineEvents.{lines_events}

-- the most commands that are taken as one group
abbrev pub most_commands : ℕ
most_commands = 65536

-- A line may be in a group: it is a command that only changes the worksheet, or it is skipped. In a strict script each line of a group is a
-- command, so that the number of the one that was refused can be counted.
abbrev pub may_be_grouped : Bool → Option ScriptLine → Bool
may_be_grouped strict None = false
may_be_grouped strict (Some line.Skip) = not strict
may_be_grouped strict (Some (line.Command c)) = is_some (op_of c)
may_be_grouped strict (Some line.Wait) = false
may_be_grouped strict (Some line.Print) = false

-- The first of these lines, each of which may be in a group, were taken, and those of the other are left; these are their events.
pub record Gathers (strict : Bool) (lines left : List (List ℕ)) (events : List Event) : Type 0 where
  pub given : List (List ℕ)
  pub split : lines ≡ given ++ left
  pub each : AllByRecursion (λ l. may_be_grouped strict (line_of l) ≡ true) given
  pub are : events ≡ lines_events given
