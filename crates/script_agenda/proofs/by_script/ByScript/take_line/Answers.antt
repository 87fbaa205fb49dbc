use Rattle.std.proofs.Common.{ap, refl}
use Rattle.std.specs.Prelude.{Err}
use Rattle.sheet_text.specs.Script.{line_of}
use Rattle.script_agenda.proofs.Wanting.{wants_command}
use Rattle.script_agenda.proofs.by_script.ByScript.take_line.Goals as goal

pub returns-in-Err-OutOfMemory : goal.returns-in-Err-OutOfMemory
returns-in-Err-OutOfMemory c =
    (refl, wants_command (line_of c.args.line.now) (c.in-Err-OutOfMemory.ensures.memory (ap (λ e. Err e) c.in-Err-OutOfMemory.field-0-is)), refl)
