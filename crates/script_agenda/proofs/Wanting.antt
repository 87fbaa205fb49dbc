-- A line for which there is no memory says a command.
use Rattle.std.proofs.Common.{◌≡◌, true, refl, Some, None}
use Rattle.std.proofs.lemmas.Bool.{false≢true}
use Rattle.std.specs.Prelude.{Option}
use Rattle.host_events.specs.declared.command.Command.{Command}
use Rattle.sheet_text.specs.Script.{wants_memory}
use Rattle.sheet_text.specs.declared.script.ScriptLine.{ScriptLine}
use Rattle.sheet_text.specs.declared.script.ScriptLine.TheVariants as line

pub wants_command : (l : Option ScriptLine) → wants_memory l ≡ true → (c : Command) × (l ≡ Some (line.Command c))
wants_command None e = absurd (false≢true e)
wants_command (Some line.Skip) e = absurd (false≢true e)
wants_command (Some (line.Command c)) e = (c, refl)
wants_command (Some line.Wait) e = absurd (false≢true e)
wants_command (Some line.Print) e = absurd (false≢true e)
