-- How the program `check` ends whose fields go side by side: what it evaluates and writes, what it tells on which stream, and the exit status,
-- which is that of `check`.
use Rattle.std.specs.Prelude.{◌≡◌, ℕ, Result, Err, IfErr, IfOk}
use Rattle.disk_model.specs.Disk.{Rises}
use Rattle.journal.specs.declared.opening.OpenCause.TheVariants as opens
use Rattle.sheet_check.specs.Check.{OnlyRead, passage}
use Rattle.sheet_check.specs.Together.{SideBySide, TogetherAnswer, together_by}
use Rattle.check_report.specs.declared.request.Request.{Request}
use Rattle.driver.specs.Place.{SourceRules}
use Rattle.offline_programs.specs.Saying.{Saying}
use Rattle.offline_programs.specs.declared.fault.RunFault.TheVariants as fault
use Rattle.sheet_check.specs.declared.named.CheckFault.TheVariants as checks
use Rattle.program_endings.specs.CheckProgram.{CheckUnopened, EndsChecked, LastOfCheck, answer_of_check}
use Rattle.program_endings.specs.Records.{DoesNothing, ProgramPassage, ProgramRun, run_on, run_since, run_until, text_before, view_given}
use Rattle.program_endings.specs.declared.check_program.CheckEnding.{CheckEnding}
use Rattle.sheet_files.specs.declared.files_fault.FilesFault.{FilesFault}

-- fields of so many sessions side by side, as a request asks for it, where the sources may do this
abbrev pub together_from : {C : Type 0} → SourceRules C → ℕ → Request → SideBySide C
together_from sources jobs request = together_by sources.after sources.clock sources.wakes jobs request

-- The check of the worksheet on a disk, what it called and wrote, and how the program ends: the status follows from the counts.
pub record TogetherDone {D C W E : Type 0} (jobs : ℕ) (request : Request) (r : ProgramRun D C W) (e : Saying E) (end : CheckEnding) : Type 0 where
  -- the disk, as it was closed
  pub later : D
  pub closed : r.given.how.closed later
  pub mid : W
  pub checked : TogetherAnswer (together_from r.rules jobs request) (view_given r.given) (passage r.called.old r.called.new (text_before r.wrote) (r.wrote.contents mid))
      (DoesNothing r.called (run_until r mid).wrote) end.answer
  pub last_reported : LastOfCheck request.format (run_since r mid).wrote end.ending.reported (answer_of_check request.chosen end.answer)
  pub read : OnlyRead (view_given r.given) (r.given.how.view later)
  -- that the disk failed is reported only where it did
  pub failed : end.answer ≡ Err (checks.Run (fault.Open opens.Disk)) → Rises (view_given r.given).faults (r.given.how.view later).faults
  -- and where anything else is answered no call of it failed
  pub steady : (end.answer ≡ Err (checks.Run (fault.Open opens.Disk)) → ⊥) → (r.given.how.view later).faults ≡ (view_given r.given).faults
  pub ends : EndsChecked e end.ending (answer_of_check request.chosen end.answer)

-- how it ends on its files, or on why they weren't opened
abbrev pub TogetherEnds : {D C W E : Type 0} → ℕ → Request → Result D FilesFault → ProgramPassage D C W → Saying E → CheckEnding → Type 0
TogetherEnds jobs request files p e end = IfErr files (CheckUnopened request.format p e end) × IfOk files (λ disk. TogetherDone jobs request (run_on p disk) e end)
