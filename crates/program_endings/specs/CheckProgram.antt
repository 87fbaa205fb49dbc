-- How the program `check` ends: what it evaluates and writes, what it tells on which stream, and the exit status.
use Rattle.std.specs.Prelude.{◌≡◌, ◌==◌, ◌&&◌, ℕ, Bool, true, nat_lt, List, Option, Some, None, Result, Ok, Err, IfErr, IfOk}
use Rattle.disk_model.specs.Disk.{Rises}
use Rattle.journal.specs.declared.opening.OpenCause.TheVariants as opens
use Rattle.sheet_check.specs.Check.{CheckAnswer, OnlyRead, passage}
use Rattle.sheet_check.specs.Evaluated.{OneByOne, checking_by}
use Rattle.check_report.specs.declared.chosen.Chosen.{Chosen}
use Rattle.check_report.specs.declared.report.ReportFormat.{ReportFormat}
use Rattle.check_report.specs.declared.report.ReportFormat.TheVariants as format
use Rattle.check_report.specs.declared.request.Request.{Request}
use Rattle.check_report.specs.declared.verdict.VerdictCounts.{VerdictCounts}
use Rattle.check_report.specs.Verdicts.{total}
use Rattle.driver.specs.Place.{SourceRules}
use Rattle.evaluation.specs.declared.fault.EvalFault.TheVariants as evals
use Rattle.offline_programs.specs.Saying.{Saying}
use Rattle.offline_programs.specs.declared.fault.RunFault.TheVariants as fault
use Rattle.sheet_check.specs.declared.named.CheckFault.{CheckFault}
use Rattle.sheet_check.specs.declared.named.CheckFault.TheVariants as checks
use Rattle.program_endings.specs.Ending.{EndsAs}
use Rattle.program_endings.specs.EvalProgram.{FramedLast, TellsEval}
use Rattle.program_endings.specs.Faults.{no_files}
use Rattle.program_endings.specs.LiveProgram.{LastReported}
use Rattle.program_endings.specs.declared.ending.Ending.{Ending}
use Rattle.tellings.specs.Json.{in_json}
use Rattle.tellings.specs.declared.note.Boundary.TheVariants as boundary
use Rattle.program_endings.specs.Records.{DoesNothing, ProgramPassage, ProgramRun, Writing, run_on, run_since, run_until, text_before, view_given}
use Rattle.program_endings.specs.declared.check_program.CheckEnding.{CheckEnding}
use Rattle.sheet_files.specs.declared.files_fault.FilesFault.{FilesFault}

-- no output differs, and no field was left unanswered
abbrev pub all_same : VerdictCounts → Bool
all_same counts = (counts.differ == 0) && (counts.unanswered == 0)

-- where the fields of one session are asked for, any was checked: so a name that no session has ends badly
abbrev pub any_of : Option (List ℕ) → VerdictCounts → Bool
any_of None counts = true
any_of (Some session) counts = nat_lt 0 (total counts)

abbrev pub finds_any : Chosen → VerdictCounts → Bool
finds_any chosen counts = any_of chosen.only counts

abbrev pub check_passes : Chosen → VerdictCounts → Bool
check_passes chosen counts = all_same counts && finds_any chosen counts

-- what a check answers: whether all is well, or its fault
abbrev pub CheckedAnswer : Type 0
CheckedAnswer = Result Bool CheckFault

-- How a check with this answer ends: the status, and the line of its fault. One of a field that isn't there is that of an evaluation.
abbrev pub EndsChecked : {E : Type 0} → Saying E → Ending → CheckedAnswer → Type 0
EndsChecked errors ending (Ok passed) = EndsAs errors ending (Ok passed)
EndsChecked errors ending (Err (checks.Run why)) = EndsAs errors ending (Err why)
EndsChecked errors ending (Err (checks.NoField id)) = (ending.status ≡ 1) × TellsEval errors ending.reported (Err (evals.NoField id))

-- what the program answers: all is well where all outputs that are compared are the same
abbrev pub answer_of_check : Chosen → Result VerdictCounts CheckFault → CheckedAnswer
answer_of_check chosen (Ok counts) = Ok (check_passes chosen counts)
answer_of_check chosen (Err why) = Err why

-- A fault is reported last of all in a report as JSON, where the output takes it; the other formats have none.
abbrev pub LastInJson : {W : Type 0} → Writing W → Bool → CheckedAnswer → Type 0
LastInJson w reported (Ok passed) = w.new ≡ w.old
LastInJson w reported (Err (checks.Run why)) = LastReported {T = Bool} in_json w.contents w.old w.new reported (Err why)
LastInJson w reported (Err (checks.NoField id)) = FramedLast in_json w.contents w.old w.new reported (boundary.NoField id)

abbrev pub LastOfCheck : {W : Type 0} → ReportFormat → Writing W → Bool → CheckedAnswer → Type 0
LastOfCheck format.Json w reported answer = LastInJson w reported answer
LastOfCheck format.Text w reported answer = w.new ≡ w.old
LastOfCheck format.Whole w reported answer = w.new ≡ w.old
LastOfCheck format.Tap w reported answer = w.new ≡ w.old
LastOfCheck format.Junit w reported answer = w.new ≡ w.old
LastOfCheck format.Accepting w reported answer = w.new ≡ w.old

-- fields one after another, as a request asks for it, where the sources may do this
abbrev pub checking_from : {C : Type 0} → SourceRules C → Request → OneByOne C
checking_from sources request = checking_by sources.after sources.clock sources.wakes request

-- The check of the worksheet on a disk, what it called and wrote, and how the program ends: the status follows from the counts.
pub record CheckDone {D C W E : Type 0} (request : Request) (r : ProgramRun D C W) (e : Saying E) (end : CheckEnding) : Type 0 where
  -- the disk, as it was closed
  pub later : D
  pub closed : r.given.how.closed later
  pub mid : W
  pub checked : CheckAnswer (checking_from r.rules request) (view_given r.given) (passage r.called.old r.called.new (text_before r.wrote) (r.wrote.contents mid))
      (DoesNothing r.called (run_until r mid).wrote) end.answer
  pub last_reported : LastOfCheck request.format (run_since r mid).wrote end.ending.reported (answer_of_check request.chosen end.answer)
  pub read : OnlyRead (view_given r.given) (r.given.how.view later)
  -- that the disk failed is reported only where it did
  pub failed : end.answer ≡ Err (checks.Run (fault.Open opens.Disk)) → Rises (view_given r.given).faults (r.given.how.view later).faults
  -- and where anything else is answered no call of it failed
  pub steady : (end.answer ≡ Err (checks.Run (fault.Open opens.Disk)) → ⊥) → (r.given.how.view later).faults ≡ (view_given r.given).faults
  pub ends : EndsChecked e end.ending (answer_of_check request.chosen end.answer)

-- how `check` ends where its files weren't opened: no child is called, and why is its fault
abbrev pub CheckUnopened : {D C W E : Type 0} → ReportFormat → ProgramPassage D C W → Saying E → CheckEnding → FilesFault → Type 0
CheckUnopened F p e end why = (p.called.new ≡ p.called.old) × (end.answer ≡ Err (checks.Run (no_files why))) × LastOfCheck F p.wrote end.ending.reported (Err (checks.Run (no_files why)))
    × EndsAs e end.ending (Err (no_files why))

-- how `check` ends on its files, or on why they weren't opened
abbrev pub CheckEnds : {D C W E : Type 0} → Request → Result D FilesFault → ProgramPassage D C W → Saying E → CheckEnding → Type 0
CheckEnds request files p e end = IfErr files (CheckUnopened request.format p e end) × IfOk files (λ disk. CheckDone request (run_on p disk) e end)
