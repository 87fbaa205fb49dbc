-- Lines that want memory.
use Rattle.std.proofs.Common.{◌≡◌, Option, Some, None, refl}
use Rattle.std.specs.Option.{option_map}
use Rattle.host_events.specs.declared.command.Command.{Command}
use Rattle.sheet_text.specs.declared.script.ScriptLine.TheVariants as line
use Rattle.sheet_text.specs.Script.{wants_memory, wants_memory_for}

pub reported_wants : (o : Option Command) → wants_memory (option_map (λ reported. line.Command reported) o) ≡ wants_memory_for o
reported_wants None = refl
reported_wants (Some reported) = refl
