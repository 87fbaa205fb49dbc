-- How the program `check --accept` ends: what it evaluates, writes and accepts, what it tells on which stream, and the exit status.
use Rattle.std.specs.Prelude.{◌≡◌, ◌==◌, ◌&&◌, ℕ, Bool, List, Option, Result, Ok, Err, IfErr, IfOk}
use Rattle.disk_model.specs.Disk.{DiskView, Rises}
use Rattle.journal.specs.declared.opening.OpenCause.TheVariants as opens
use Rattle.sheet_check.specs.Accept.{AcceptAnswer, acceptance, accepting_by}
use Rattle.sheet_check.specs.Check.{passage}
use Rattle.sheet_check.specs.Evaluated.{OneByOne}
use Rattle.check_report.specs.declared.chosen.Chosen.{Chosen}
use Rattle.check_report.specs.declared.request.Request.{Request}
use Rattle.check_report.specs.declared.verdict.VerdictCounts.{VerdictCounts}
use Rattle.driver.specs.Place.{SourceRules}
use Rattle.offline_programs.specs.Saying.{Saying}
use Rattle.offline_programs.specs.declared.fault.RunFault.TheVariants as fault
use Rattle.sheet_check.specs.declared.named.CheckFault.{CheckFault}
use Rattle.sheet_check.specs.declared.named.CheckFault.TheVariants as checks
use Rattle.program_endings.specs.CheckProgram.{CheckedAnswer, EndsChecked, finds_any}
use Rattle.program_endings.specs.Programs.{EndsUnopened}
use Rattle.program_endings.specs.Records.{DoesNothing, ProgramPassage, ProgramRun, run_on, text_after, text_before, view_given}
use Rattle.program_endings.specs.declared.ending.Ending.{Ending}
use Rattle.sheet_files.specs.declared.files_fault.FilesFault.{FilesFault}

-- no field was left unanswered, and where those of one session are asked for, any was checked
abbrev pub accepts_all : Chosen → VerdictCounts → Bool
accepts_all chosen counts = (counts.unanswered == 0) && finds_any chosen counts

-- what the program answers: all is well where each output that is compared is the same, or was accepted
abbrev pub answer_of_acceptance : Chosen → Result VerdictCounts CheckFault → CheckedAnswer
answer_of_acceptance chosen (Ok counts) = Ok (accepts_all chosen counts)
answer_of_acceptance chosen (Err why) = Err why

-- What a check that accepts is asked for, and what the output held while a disk was in which state.
pub record AcceptSetting : Type 1 where
  pub request : Request
  pub held : Option (List ℕ) → DiskView → Type 0

abbrev pub accept_setting : Request → (Option (List ℕ) → DiskView → Type 0) → AcceptSetting
accept_setting request held = record { request = request; held = held }

-- fields one after another, as a request that accepts asks for it, where the sources may do this
abbrev pub accepting_from : {C : Type 0} → SourceRules C → Request → OneByOne C
accepting_from sources request = accepting_by sources.after sources.clock sources.wakes request

-- The check of the worksheet on a disk, what it called, wrote and accepted, and how the program ends: the status follows from the counts.
pub record AcceptDone {D C W E : Type 0} (o : AcceptSetting) (r : ProgramRun D C W) (e : Saying E) (ending : Ending) : Type 0 where
  -- the disk, as it was closed
  pub later : D
  pub closed : r.given.how.closed later
  pub answer : Result VerdictCounts CheckFault
  pub accepted : AcceptAnswer (accepting_from r.rules o.request) (acceptance o.held (view_given r.given) (r.given.how.view later)) (passage r.called.old r.called.new (text_before r.wrote) (text_after r.wrote))
      (DoesNothing r.called r.wrote) answer
  -- that the disk failed at the opening is reported only where it did
  pub failed : answer ≡ Err (checks.Run (fault.Open opens.Disk)) → Rises (view_given r.given).faults (r.given.how.view later).faults
  -- lack of memory at the opening is reported only where no call of the disk failed
  pub memory : answer ≡ Err (checks.Run (fault.Open opens.OutOfMemory)) → (r.given.how.view later).faults ≡ (view_given r.given).faults
  pub ends : EndsChecked e ending (answer_of_acceptance o.request.chosen answer)

-- how `check --accept` ends on its files, or on why they weren't opened
abbrev pub AcceptEnds : {D C W E : Type 0} → AcceptSetting → Result D FilesFault → ProgramPassage D C W → Saying E → Ending → Type 0
AcceptEnds o files p e ending = IfErr files (EndsUnopened p e ending) × IfOk files (λ disk. AcceptDone o (run_on p disk) e ending)
