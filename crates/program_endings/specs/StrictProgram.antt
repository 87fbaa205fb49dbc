-- How a run ends that may have stopped after a line that went wrong: what it tells on which stream, and the exit status.
use Rattle.std.specs.Prelude.{◌≡◌, ℕ, Bool, List, [], ◌∷◌, ◌++◌, Option, Some, None, Result, Ok, Err, codes}
use Rattle.std.specs.Fmt.{decimal}
use Rattle.offline_programs.specs.Faults.{fault_text}
use Rattle.offline_programs.specs.Saying.{IsSaid, Saying}
use Rattle.offline_programs.specs.declared.fault.RunFault.{RunFault}

-- what the program answers: the line after which it stopped, if it did, or its fault
abbrev pub StrictAnswer : Type 0
StrictAnswer = Result (Option ℕ) RunFault

abbrev pub strict_status : StrictAnswer → ℕ
strict_status (Ok None) = 0
strict_status (Ok (Some number)) = 3
strict_status (Err why) = 1

-- the line that tells where it stopped
abbrev pub stopped_text : ℕ → List ℕ
stopped_text number = codes "stopped at line " ++ decimal number ++ 10 ∷ []

-- the line that tells after which field an evaluation stopped
abbrev pub stopped_after_text : ℕ → List ℕ
stopped_after_text id = codes "stopped at field " ++ decimal id ++ 10 ∷ []

-- where it stopped is a line that is said on the stream of errors, and so is a fault; nothing else stands there
abbrev pub TellsStop : {E : Type 0} → Saying E → Bool → StrictAnswer → Type 0
TellsStop errors reported (Ok None) = errors.new ≡ errors.old
TellsStop errors reported (Ok (Some number)) = IsSaid errors (stopped_text number) reported
TellsStop errors reported (Err why) = IsSaid errors (fault_text why) reported
