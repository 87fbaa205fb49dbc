-- How a program ends: its exit status, and what it says on which stream.
use Rattle.std.specs.Prelude.{◌≡◌, ℕ, Bool, true, false, List, Option, Result, Ok, Err, IfOk, IfErr, IfSome, IsErrOf}
use Rattle.offline_programs.specs.Faults.{fault_text}
use Rattle.offline_programs.specs.Saying.{IsSaid, Saying}
use Rattle.offline_programs.specs.Input.{IsStreamFault}
use Rattle.program_endings.specs.Printed.{IsLongInput, IsPrinted, IsShortInput}
use Rattle.program_endings.specs.declared.ending.Ending.{Ending}
use Rattle.offline_programs.specs.declared.fault.RunFault.{RunFault}
use Rattle.offline_programs.specs.declared.fault.RunFault.TheVariants as fault

-- what a program answers: whether all is well, or its fault
abbrev pub ProgramAnswer : Type 0
ProgramAnswer = Result Bool RunFault

-- what a program answers that came to its end, or had a fault
abbrev pub answer_of : {T : Type 0} → Result T RunFault → ProgramAnswer
answer_of (Ok done) = Ok true
answer_of (Err why) = Err why

-- 0 where all is well, and 1 where the stream has a fault or an open block, or the program met a fault
abbrev pub status_of : ProgramAnswer → ℕ
status_of (Ok true) = 0
status_of (Ok false) = 1
status_of (Err fault) = 1

-- a fault is a line that is said on the stream of errors; nothing else stands there
abbrev pub TellsFault : {E : Type 0} → Saying E → Bool → ProgramAnswer → Type 0
TellsFault errors reported (Ok whole) = errors.new ≡ errors.old
TellsFault errors reported (Err fault) = IsSaid errors (fault_text fault) reported

-- how a program with this answer ends: the status, and the line of its fault
abbrev pub EndsAs : {E : Type 0} → Saying E → Ending → ProgramAnswer → Type 0
EndsAs errors ending answer = (ending.status ≡ status_of answer) × TellsFault errors ending.reported answer

-- What `blocks` answers, and what it has written then: its clauses. The stream is what the reader gives,
-- where it is known; `contents` are the bytes that the writer holds.
pub record BlocksAnswer {W : Type 0} (stream : Option (List ℕ)) (contents : W → Option (List ℕ)) (old new : W) (answer : ProgramAnswer) : Type 0 where
  pub printed : IfOk answer (λ whole. IfSome stream (λ bytes. IsPrinted bytes (contents old) (contents new) whole))
  pub short : IfOk answer (λ whole. IsShortInput stream)
  pub output_short : IsErrOf answer fault.Output → IsShortInput stream
  pub too_long : IsErrOf answer fault.InputTooLong → IsLongInput stream
  pub faults : IfErr answer IsStreamFault
  pub nothing_at_input : IsErrOf answer fault.Input → new ≡ old
  pub nothing_at_too_long : IsErrOf answer fault.InputTooLong → new ≡ old
  pub nothing_at_memory : IsErrOf answer fault.OutOfMemory → new ≡ old
