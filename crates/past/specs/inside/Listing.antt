-- Changes that are listed one after another. No public clause speaks of it.
use Rattle.std.specs.Prelude.{◌⊎◌, ℕ, List, Option, Some, None, Result, Ok, Err}
use Rattle.journal.specs.declared.opening.OpenCause.{OpenCause}
use Rattle.journal.specs.declared.opening.OpenCause.TheVariants as opens
use Rattle.journal.specs.declared.walk.Payload.{Payload}
use Rattle.offline_programs.specs.declared.fault.RunFault.{RunFault}
use Rattle.offline_programs.specs.declared.fault.RunFault.TheVariants as fault
use Rattle.recovery.specs.inside.Taken.{Refuses, TakesOps}
use Rattle.worksheet.specs.Contents.{Contents}
use Rattle.worksheet.specs.declared.op.Op.{Op}

-- the payload after these ops is that of an allowed one, of which the line was written
abbrev pub ListsNext : List Op → Payload → (Op → Type 0) → Type 0
ListsNext ops p line = (sheet : Contents) × (takes : TakesOps ops p.bytes sheet) × line takes.next

-- Why a payload after these ops wasn't listed: it is refused, and nothing was written of it. Or the cause isn't in its bytes, and
-- its line was written, or nothing.
abbrev pub RefusesIn : List Op → Payload → Type 0 → (Op → Type 0) → OpenCause → Type 0
RefusesIn ops p nothing line (opens.Damaged gate) = Refuses ops p (opens.Damaged gate) × nothing
RefusesIn ops p nothing line opens.NotASheet = ⊥
RefusesIn ops p nothing line opens.Disk = ⊥
RefusesIn ops p nothing line opens.OutOfMemory = nothing ⊎ ListsNext ops p line

abbrev pub RefusesToList : List Op → Payload → Type 0 → (Op → Type 0) → RunFault → Type 0
RefusesToList ops p nothing line (fault.Open cause) = RefusesIn ops p nothing line cause
RefusesToList ops p nothing line fault.Output = Unit {0}
RefusesToList ops p nothing line _ = ⊥

-- how a list ends where all changes before the first damage were listed
abbrev pub list_answer : Option ℕ → Result Unit RunFault
list_answer None = Ok tt
list_answer (Some gate) = Err (fault.Open (opens.Damaged gate))
