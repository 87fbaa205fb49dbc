use Rattle.std.proofs.Common.{◌≡◌, ◌≤◌, ℕ, Err, List, Option, ap, length, refl, subst, sym}
use Rattle.std.specs.Prelude.{IfSome}
use Rattle.offline_programs.specs.Input.{longest_standard_input}
use Rattle.offline_programs.specs.Saying.{Saying}
use Rattle.program_endings.specs.LiveProgram.{LiveSetting}
use Rattle.program_endings.specs.Records.{ProgramRun}
use Rattle.program_endings.specs.ScriptProgram.{RunsRead, ScriptEnds, unread, whole}
use Rattle.program_endings.specs.declared.ending.Ending.{Ending}
use Rattle.program_endings.proofs.script_program.run_on.Goals as goal

-- the script is what was read
read : {D C W E : Type 0} (o : LiveSetting) (script : List ℕ) (r : ProgramRun D C W) (e : Saying E) (ending : Ending) (stream : Option (List ℕ)) (bytes : List ℕ) → bytes ≡ script
    → IfSome stream (λ all. bytes ≡ all) → length bytes ≤ longest_standard_input → RunsRead o script r e ending → ScriptEnds o stream r e ending
read o script r e ending stream bytes is all short ran =
    whole script (subst (λ it. IfSome stream (λ all. it ≡ all)) is all) (subst (λ (it : List ℕ). length it ≤ longest_standard_input) is short) ran

pub returns-in-Ok : goal.returns-in-Ok
returns-in-Ok g c = read _ _ _ _ _ _ _ (sym c.as_slice.ensures.value) c.in-Ok.ensures.whole c.in-Ok.ensures.short c.run_whole.ensures

pub returns-in-Err : goal.returns-in-Err
returns-in-Err g c =
    unread c.in-Err.fault c.in-Err.ensures.faults (λ is. c.in-Err.ensures.long (ap (λ why. Err why) is)) (refl, refl) c.close.ensures (c.end_program.ensures.status, c.end_program.ensures.reported)
