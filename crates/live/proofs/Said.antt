-- A line that is said.
use Rattle.std.proofs.Common.{◌≡◌, ℕ, true, true≢false, List, Option, Some, None, refl, sym}
use Rattle.live.specs.LiveLines.{live_line_of, script_or_form}
use Rattle.sheet_text.specs.Script.{line_of, wants_memory}
use Rattle.sheet_text.specs.declared.script.ScriptLine.{ScriptLine}
use Rattle.sheet_text.specs.declared.script.ScriptLine.TheVariants as line
use Rattle.child_edge.specs.Reported.{reported}
use Rattle.live.specs.Saying.{IsCommand}

-- memory is wanted for a line that says a command
pub wants_command : (bytes : List ℕ) → wants_memory (line_of bytes) ≡ true → IsCommand (live_line_of bytes)
wants_command bytes wants = go (line_of bytes) wants
  where
    go : (l : Option ScriptLine) → wants_memory l ≡ true → IsCommand (script_or_form l bytes)
    go None e = absurd (true≢false (sym e))
    go (Some line.Skip) e = absurd (true≢false (sym e))
    go (Some (line.Command reported)) e = (reported, refl)
    go (Some line.Wait) e = absurd (true≢false (sym e))
    go (Some line.Print) e = absurd (true≢false (sym e))
