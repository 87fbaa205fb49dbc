use Rattle.std.proofs.Common.{◌≡◌, ◌∙◌, Bool, true, false, List, Some, ℕ, subst, sym}
use Rattle.std.specs.Bool.{MatchBool}
use Rattle.offline_programs.specs.Saying.{Saying}
use Rattle.program_endings.specs.LiveProgram.{LiveEnded, LiveSetting}
use Rattle.program_endings.specs.Records.{ProgramRun}
use Rattle.program_endings.specs.ScriptProgram.{RunsRead, RunsWhole, has_form}
use Rattle.program_endings.specs.declared.ending.Ending.{Ending}
use Rattle.program_endings.proofs.script_program.run_whole.Goals as goal

module _ {D C W E : Type 0} (o : LiveSetting) (script : List ℕ) (r : ProgramRun D C W) (e : Saying E) (ending : Ending) where
  abbrev Either : Bool → Type 0
  Either has = MatchBool has (LiveEnded o (Some script) r e ending) (RunsWhole o script r e ending)

  by_lines : has_form script ≡ true → LiveEnded o (Some script) r e ending → RunsRead o script r e ending
  by_lines is p = subst Either (sym is) p

  as_script : has_form script ≡ false → RunsWhole o script r e ending → RunsRead o script r e ending
  as_script is p = subst Either (sym is) p

pub returns-then-has_form : goal.returns-then-has_form
returns-then-has_form g c = by_lines _ _ _ _ _ (sym c.has_form.ensures ∙ c.if-has_form.true) c.run_by_lines.ensures

pub returns-else-has_form : goal.returns-else-has_form
returns-else-has_form g c = as_script _ _ _ _ _ (sym c.has_form.ensures ∙ c.if-has_form.false) c.run_as_script.ensures
