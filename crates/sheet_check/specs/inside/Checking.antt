-- What the functions of a check promise each other. No public contract names this.
use Rattle.std.specs.Prelude.{◌≡◌, ◌+◌, ◌⊎◌, ℕ, false, true, List, [], ◌∷◌, ◌++◌, Option, Some, None, Result, Ok, Err, IfOk, IfErr}
use Rattle.std.specs.Io.KnownBytes.{Appends}
use Rattle.disk_model.specs.Disk.{DiskView}
use Rattle.worksheet.specs.declared.field.Answer.{Answer}
use Rattle.worksheet.specs.declared.field.Field.{Field}
use Rattle.worksheet.specs.Contents.{Contents}
use Rattle.session_engine.specs.World.{World}
use Rattle.session_engine.specs.Host.{HostView, IsHost}
use Rattle.child_edge.specs.Faithful.{At, at}
use Rattle.child_edge.specs.Seats.{running}
use Rattle.child_edge.specs.Stops.{Stops}
use Rattle.offline_programs.specs.declared.fault.RunFault.{RunFault}
use Rattle.offline_programs.specs.declared.fault.RunFault.TheVariants as fault
use Rattle.check_report.specs.declared.report.ReportFormat.{ReportFormat}
use Rattle.check_report.specs.declared.verdict.VerdictCounts.{VerdictCounts}
use Rattle.check_report.specs.declared.verdict.Judgement.{Judgement}
use Rattle.sheet_json.specs.declared.checks.Took.{Took}
use Rattle.check_report.specs.Chosen.{Judged}
use Rattle.check_report.specs.Reports.{Case, case, case_text, cases_text, closing_text, report_front, judgements_of}
use Rattle.check_report.specs.Verdicts.{counted_with, counts_of, total}
use Rattle.check_report.specs.Errors.{brings_error}
use Rattle.live.specs.Records.{Left}
use Rattle.sheet_check.specs.Check.{FirstBroke, FirstLed, IsCopy, Passage, world_at_break}
use Rattle.sheet_check.specs.Driven.{DriveBroke, DrivenToEnd, IsOfEvaluation, one_plan}
use Rattle.sheet_check.specs.Evaluated.{OneByOne, Way, fault_on_copy, reason_shown_in}
use Rattle.sheet_check.specs.Fields.{Evaluated, FieldChecked, FieldsChecked}
use Rattle.sheet_check.specs.Marks.{lacked_memory}
use Rattle.driver.specs.Stopping.{StopsAll}
use Rattle.sheet_check.specs.Progress.{Display, MakesRoom}
use Rattle.sheet_check.specs.declared.progress.Sight.TheVariants as sight
use Rattle.sheet_check.specs.declared.marks.Mark.{Mark}

-- A field was evaluated from here by itself, and this is where the copy's host stands.
abbrev pub CameAlone : {C : Type 0} → Way C → ℕ → At C → HostView → C → List Mark → Type 0
CameAlone o id s h c marks = (t : World) × DrivenToEnd o (one_plan o id) s marks (at t c h.store.disk) × IsHost h t

-- The same, and there was memory for its line, or there was none.
abbrev pub CameRemembered : {C : Type 0} → Way C → ℕ → At C → HostView → C → List Mark → Type 0
CameRemembered o id s h c marks = CameAlone o id s h c marks × (lacked_memory marks ≡ false)

-- An evaluation broke off, or there was no memory for its line.
pub data EvaluationBroke {C : Type 0} (o : Way C) (id : ℕ) (s : At C) (h : HostView) (c : C) (why : RunFault) : Type 0 where
  halted : (cause : RunFault) → why ≡ fault_on_copy cause → IsOfEvaluation why → DriveBroke o (one_plan o id) s h c cause → EvaluationBroke o id s h c why
  unremembered : (marks : List Mark) → why ≡ fault.OutOfMemory → lacked_memory marks ≡ true → CameAlone o id s h c marks → EvaluationBroke o id s h c why

-- What a field came to couldn't be reported: there was no memory for it, and nothing was written, or the writer failed.
pub data Withheld (a b : Option (List ℕ)) (why : RunFault) : Type 0 where
  unremembered : why ≡ fault.OutOfMemory → Appends a b [] → Withheld a b why
  unwritten : why ≡ fault.Output → Withheld a b why

-- What a fault leaves of the output: this text, but where the writer failed.
abbrev pub LeavesText : Option (List ℕ) → Option (List ℕ) → List ℕ → RunFault → Type 0
LeavesText a b text why = (why ≡ fault.Output) ⊎ Appends a b text

-- What is to be evaluated and reported: a field, and the number of the case that it is.
pub record Question : Type 0 where
  pub number : ℕ
  pub field : Field

abbrev pub question : ℕ → Field → Question
question number field = record { number = number; field = field }

-- A field was evaluated, what came was judged, and what is to be reported is written.
abbrev pub ShownWrote : {C : Type 0} → OneByOne C → Question → At C → Left C → Judgement → Type 0
ShownWrote o one s l j = (came : Option Answer) × (t : World) × (took : Took) × Evaluated o.way one.field s came took (at t l.sources l.host.store.disk)
    × IsHost l.host t × Judged o.chosen one.field came j.verdict × (j.error ≡ brings_error came)
    × Appends l.out l.now (case_text o.format one.number (case one.field came (reason_shown_in t one.field.id) j.verdict (Some took)))

-- with these more
abbrev pub counted_on : List Judgement → VerdictCounts → VerdictCounts
counted_on [] counts = counts
counted_on (one ∷ others) counts = counted_with one (counted_on others counts)

-- A field was checked after those that are counted, and what is to be reported is written.
abbrev pub FieldWrote : {C : Type 0} → OneByOne C → Field → At C → Left C → VerdictCounts → VerdictCounts → Type 0
FieldWrote o field s l counts after = (cases : List Case) × (t : World) × FieldChecked o.way o.chosen field s cases (at t l.sources l.host.store.disk)
    × IsHost l.host t × (after ≡ counted_on (judgements_of cases) counts) × Appends l.out l.now (cases_text o.format (total counts + 1) cases)

-- The evaluation of the first of these fields broke off, or it led to where the host stands; of it nothing is written.
pub data FirstFailed {C : Type 0} (o : OneByOne C) (fields : List Field) (s : At C) (h : HostView) (c : C) (why : RunFault) : Type 0 where
  halted : FirstBroke o fields s h c why → FirstFailed o fields s h c why
  unremembered : (t : World) → why ≡ fault.OutOfMemory → FirstLed o fields s (at t c h.store.disk) → IsHost h t → FirstFailed o fields s h c why
  unwritten : (t : World) → why ≡ fault.Output → FirstLed o fields s (at t c h.store.disk) → IsHost h t → FirstFailed o fields s h c why

-- The same, and each life that goes on was stopped.
pub data FirstStopped {C : Type 0} (o : OneByOne C) (fields : List Field) (s : At C) (d : C) (why : RunFault) : Type 0 where
  halted : (h : HostView) (c : C) (b : FirstBroke o fields s h c why) → StopsAll o.way.after h (world_at_break b.broke) c d → FirstStopped o fields s d why
  unremembered : (t : At C) → why ≡ fault.OutOfMemory → FirstLed o fields s t → Stops o.way.after (running t.world) t.children d → FirstStopped o fields s d why
  unwritten : (t : At C) → why ≡ fault.Output → FirstLed o fields s t → Stops o.way.after (running t.world) t.children d → FirstStopped o fields s d why

-- The check of a field ended early, whatever fields come after it, and of it nothing is written, but where the writer failed.
abbrev pub FieldFailed : {C : Type 0} → OneByOne C → Field → At C → Left C → RunFault → Type 0
FieldFailed o field s l why = ((others : List Field) → FirstFailed o (field ∷ others) s l.host l.sources why) × LeavesText l.out l.now [] why

-- These fields were checked, and what is to be reported is written.
abbrev pub FieldsWrote : {C : Type 0} → OneByOne C → List Field → At C → Left C → VerdictCounts → Type 0
FieldsWrote o fields s l counts = (cases : List Case) × (t : World) × FieldsChecked o.way o.chosen fields s cases (at t l.sources l.host.store.disk)
    × IsHost l.host t × (counts ≡ counts_of (judgements_of cases)) × Appends l.out l.now (report_front o.format cases)

-- The first of these fields were checked, which are these cases, and perhaps a part of the next one.
pub record FieldsFailed {C : Type 0} (o : OneByOne C) (fields : List Field) (s : At C) (l : Left C) (why : RunFault) : Type 0 where
  pub gone : List Field
  pub left : List Field
  pub split : fields ≡ gone ++ left
  pub cases : List Case
  pub mid : At C
  pub checked : FieldsChecked o.way o.chosen gone s cases mid
  pub failed : FirstFailed o left mid l.host l.sources why
  pub wrote : LeavesText l.out l.now (report_front o.format cases) why

-- From this world, on the disk of a copy, these fields were checked, what is to be reported is written, and each life that goes on was
-- stopped.
abbrev pub FieldsEnded : {C : Type 0} → OneByOne C → List Field → World → DiskView → Passage C → VerdictCounts → Type 0
FieldsEnded {C = C} o fields w copy q counts = (cases : List Case) × (t : At C) × FieldsChecked o.way o.chosen fields (at w q.sources copy) cases t
    × Stops o.way.after (running t.world) t.children q.left × (counts ≡ counts_of (judgements_of cases)) × Appends q.text q.written (report_front o.format cases)

-- From there the first of them were checked, which are these cases, and perhaps a part of the next one, and each life that goes on was
-- stopped.
pub record FieldsStopped {C : Type 0} (o : OneByOne C) (fields : List Field) (w : World) (copy : DiskView) (q : Passage C) (why : RunFault) : Type 0 where
  pub gone : List Field
  pub left : List Field
  pub split : fields ≡ gone ++ left
  pub cases : List Case
  pub mid : At C
  pub checked : FieldsChecked o.way o.chosen gone (at w q.sources copy) cases mid
  pub ended : FirstStopped o left mid q.left why
  pub wrote : LeavesText q.text q.written (report_front o.format cases) why

-- A field was passed over, and nothing shown, or it came to a verdict, and the line stands with the counts after it.
abbrev pub FieldShown : {P : Type 0} → Display P → ℕ → VerdictCounts → VerdictCounts → P → P → Type 0
FieldShown {P = P} m all counts after p q = ((after ≡ counts) × (q ≡ p))
    ⊎ ((one : Judgement) × (free : P) × (after ≡ counted_with one counts) × MakesRoom m.format m.shows one.verdict p free × m.shows free (sight.Line after all) q)

-- The worksheet was checked on a copy of it, and each life that goes on was stopped.
abbrev pub OnCopy : {C : Type 0} → OneByOne C → Contents → Passage C → Result VerdictCounts RunFault → Type 0
OnCopy o sheet q counted = (w : World) × (copy : DiskView) × IsCopy sheet w copy
    × IfOk counted (FieldsEnded o sheet.fields w copy q) × IfErr counted (FieldsStopped o sheet.fields w copy q)

-- What is written of a check that came to this on its copy, from one text to the other, and what it then answers: its counts, but where the writer fails
-- at them; the fault that it met; and a lack of memory where there was none for a copy.
abbrev pub CountsWritten : ReportFormat → Option (List ℕ) → Option (List ℕ) → Option (Result VerdictCounts RunFault) → Result VerdictCounts RunFault → Type 0
CountsWritten F a b None result = result ≡ Err fault.OutOfMemory
CountsWritten F a b (Some (Ok counts)) result = ((result ≡ Ok counts) × Appends a b (closing_text F counts)) ⊎ (result ≡ Err fault.Output)
CountsWritten F a b (Some (Err why)) result = (result ≡ Err why) × (b ≡ a)
