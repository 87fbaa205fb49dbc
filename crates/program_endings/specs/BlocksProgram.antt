-- How the programs `blocks` and `blocks --json` end, and what the second one answers.
use Rattle.std.specs.Prelude.{◌≡◌, ℕ, List, Option, IfOk, IfErr, IfSome, IsErrOf}
use Rattle.meta_format.specs.Limits.{limits}
use Rattle.offline_programs.specs.Input.{IsStreamFault}
use Rattle.offline_programs.specs.declared.fault.RunFault.TheVariants as fault
use Rattle.stream_json.specs.StreamObjects.{ObjectsOf}
use Rattle.tellings.specs.Json.{in_json}
use Rattle.program_endings.specs.Ending.{BlocksAnswer, EndsAs, ProgramAnswer}
use Rattle.program_endings.specs.LiveProgram.{LastReported}
use Rattle.program_endings.specs.Printed.{IsLongInput, IsShortInput}
use Rattle.program_endings.specs.Records.{Streams}
use Rattle.program_endings.specs.declared.ending.Ending.{Ending}

-- What it answers, and what it has written then but for its own fault: its clauses. The stream is what the reader gives, where that is
-- known; `contents` are the bytes that the writer holds. Of memory that is refused later some objects may be written.
pub record ObjectsAnswer {W : Type 0} (stream : Option (List ℕ)) (contents : W → Option (List ℕ)) (old new : W) (answer : ProgramAnswer) : Type 0 where
  pub printed : IfOk answer (λ whole. IfSome stream (λ bytes. ObjectsOf limits bytes (contents old) (contents new) whole))
  pub short : IfOk answer (λ whole. IsShortInput stream)
  pub output_short : IsErrOf answer fault.Output → IsShortInput stream
  pub too_long : IsErrOf answer fault.InputTooLong → IsLongInput stream
  pub faults : IfErr answer IsStreamFault
  pub nothing_at_input : IsErrOf answer fault.Input → new ≡ old
  pub nothing_at_too_long : IsErrOf answer fault.InputTooLong → new ≡ old

-- How `blocks` ends, where its reader gives this stream: what it answers, its fault, and the status.
abbrev pub BlocksEnd : {W E : Type 0} → Option (List ℕ) → Streams W E → Ending → Type 0
BlocksEnd stream s ending = (answer : ProgramAnswer) × BlocksAnswer stream s.output.contents s.output.old s.output.new answer × EndsAs s.errors ending answer

-- How `blocks --json` does, which has a fault of its own last.
abbrev pub ObjectsEnd : {W E : Type 0} → Option (List ℕ) → Streams W E → Ending → Type 0
ObjectsEnd {W = W} stream s ending = (answer : ProgramAnswer) × (mid : W) × ObjectsAnswer stream s.output.contents s.output.old mid answer
    × LastReported in_json s.output.contents mid s.output.new ending.reported answer × EndsAs s.errors ending answer
