-- Which lines have a form that a script doesn't have.
use Rattle.std.proofs.Common.{◌≡◌, ◌∙◌, ℕ, Bool, true, false, List, Option, Some, None, ap, refl, sym}
use Rattle.std.proofs.lemmas.Bool.{false≢true}
use Rattle.live.specs.LiveLines.{live_line_of, script_or_form}
use Rattle.live.specs.declared.live_line.LiveLine.{LiveLine}
use Rattle.sheet_text.specs.Script.{line_of, wants_memory}
use Rattle.sheet_text.specs.declared.script.ScriptLine.{ScriptLine}
use Rattle.program_endings.specs.ScriptProgram.{is_form, says_form}

-- a line that was read
pub as_read : (bytes : List ℕ) (read : LiveLine) (is : Bool) → live_line_of bytes ≡ Some read → is ≡ is_form (Some read) → is ≡ says_form bytes
as_read bytes read is said so = so ∙ sym (ap is_form said)

-- a bad line
pub as_bad : (bytes : List ℕ) → live_line_of bytes ≡ None → false ≡ says_form bytes
as_bad bytes said = sym (ap is_form said)

command_form : (said : Option ScriptLine) (bytes : List ℕ) → wants_memory said ≡ true → false ≡ is_form (script_or_form said bytes)
command_form None bytes wants = absurd (false≢true wants)
command_form (Some said) bytes wants = refl

-- a command for whose bytes there is no memory
pub as_command : (bytes : List ℕ) → wants_memory (line_of bytes) ≡ true → false ≡ says_form bytes
as_command bytes wants = command_form (line_of bytes) bytes wants

pub ruleset form_steps = (as_read, as_bad, as_command)
