-- What the functions promise each other that report fields after all were evaluated. No public contract names this.
use Rattle.std.specs.Prelude.{◌≡◌, ◌+◌, ◌⊎◌, ℕ, List, [], ◌++◌, Option, Result, IfOk, IfErr}
use Rattle.std.specs.Io.KnownBytes.{Appends}
use Rattle.worksheet.specs.Contents.{Contents}
use Rattle.worksheet.specs.declared.field.Field.{Field}
use Rattle.session_engine.specs.World.{World}
use Rattle.session_engine.specs.Host.{HostView, IsHost}
use Rattle.child_edge.specs.Faithful.{At, at}
use Rattle.offline_programs.specs.declared.fault.RunFault.{RunFault}
use Rattle.offline_programs.specs.declared.fault.RunFault.TheVariants as fault
use Rattle.check_report.specs.declared.chosen.Chosen.{Chosen}
use Rattle.check_report.specs.declared.report.ReportFormat.{ReportFormat}
use Rattle.check_report.specs.declared.verdict.VerdictCounts.{VerdictCounts}
use Rattle.check_report.specs.Reports.{Case, cases_text, report_front, judgements_of}
use Rattle.check_report.specs.Verdicts.{counts_of, total}
use Rattle.live.specs.Records.{Left}
use Rattle.sheet_check.specs.Evaluated.{fault_on_copy}
use Rattle.sheet_check.specs.Check.{Passage}
use Rattle.sheet_check.specs.Driven.{DriveBroke, DrivenToEnd}
use Rattle.sheet_check.specs.Together.{EvaluatedTogether, FieldCompared, FieldsCompared, SideBySide, TellsTogether, checking}
use Rattle.sheet_check.specs.declared.marks.Mark.{Mark}
use Rattle.sheet_check.specs.inside.Checking.{counted_on}

-- How fields are compared: which, and how they are reported; where the copy stands, and the marks of the evaluation.
pub record Comparing : Type 0 where
  pub chosen : Chosen
  pub format : ReportFormat
  pub world : World
  pub marks : List Mark

abbrev pub comparing : Chosen → ReportFormat → World → List Mark → Comparing
comparing chosen F w marks = record { chosen = chosen; format = F; world = w; marks = marks }

-- A field was compared after those that are counted, and what is to be reported is written.
abbrev pub FieldReported : Comparing → Field → Option (List ℕ) → Option (List ℕ) → VerdictCounts → VerdictCounts → Type 0
FieldReported m field a b counts after =
    (cases : List Case) × FieldCompared m.chosen m.world m.marks field cases × (after ≡ counted_on (judgements_of cases) counts) × Appends a b (cases_text m.format (total counts + 1) cases)

-- These fields were compared, and what is to be reported is written.
abbrev pub FieldsReported : Comparing → List Field → Option (List ℕ) → Option (List ℕ) → VerdictCounts → Type 0
FieldsReported m fields a b counts =
    (cases : List Case) × FieldsCompared m.chosen m.world m.marks fields cases × (counts ≡ counts_of (judgements_of cases)) × Appends a b (report_front m.format cases)

-- what a report leaves of the output that broke off after these cases
abbrev pub LeavesReport : ReportFormat → List Case → Option (List ℕ) → Option (List ℕ) → RunFault → Type 0
LeavesReport F cases a b why = ((why ≡ fault.OutOfMemory) × Appends a b (report_front F cases)) ⊎ (why ≡ fault.Output)

-- The first of these fields were compared, which are these cases; the next one, or what stands first, couldn't be reported.
pub record ReportBroke (m : Comparing) (fields : List Field) (a b : Option (List ℕ)) (why : RunFault) : Type 0 where
  pub gone : List Field
  pub left : List Field
  pub split : fields ≡ gone ++ left
  pub cases : List Case
  pub compared : FieldsCompared m.chosen m.world m.marks gone cases
  pub wrote : LeavesReport m.format cases a b why

-- The fields that are checked were evaluated on a copy from here, and it stands there.
abbrev pub CameTogether : {C : Type 0} → SideBySide C → List Field → At C → HostView → C → List Mark → Type 0
CameTogether o fields s h c marks = (t : World) × DrivenToEnd o.way (checking o fields) s marks (at t c h.store.disk) × IsHost h t

-- the evaluation broke off
abbrev pub BrokeTogether : {C : Type 0} → SideBySide C → List Field → At C → HostView → C → RunFault → Type 0
BrokeTogether o fields s h c why = (cause : RunFault) × (why ≡ fault_on_copy cause) × DriveBroke o.way (checking o fields) s h c cause

-- They were evaluated, and reported.
abbrev pub ReportedTogether : {C : Type 0} → SideBySide C → List Field → At C → Left C → VerdictCounts → Type 0
ReportedTogether o fields s l counts =
    (marks : List Mark) × ((came : CameTogether o fields s l.host l.sources marks) × FieldsReported (comparing o.chosen o.format came.0 marks) fields l.out l.now counts)

-- The evaluation broke off, and nothing was written, or the report did.
abbrev pub FailedTogether : {C : Type 0} → SideBySide C → List Field → At C → Left C → RunFault → Type 0
FailedTogether o fields s l why =
    (BrokeTogether o fields s l.host l.sources why × Appends l.out l.now [])
    ⊎ ((marks : List Mark) × ((came : CameTogether o fields s l.host l.sources marks) × ReportBroke (comparing o.chosen o.format came.0 marks) fields l.out l.now why))

-- So they were, and then each life that goes on was stopped.
abbrev pub EndedTogether : {C : Type 0} → SideBySide C → Contents → Passage C → VerdictCounts → Type 0
EndedTogether o sheet q counts =
    (leads : World) × (marks : List Mark) × EvaluatedTogether o sheet q.sources q.left leads marks
    × ((cases : List Case) × FieldsCompared o.chosen leads marks sheet.fields cases × (counts ≡ counts_of (judgements_of cases)) × Appends q.text q.written (report_front o.format cases))

-- the same on a copy
abbrev pub OnCleared : {C : Type 0} → SideBySide C → Contents → Passage C → Result VerdictCounts RunFault → Type 0
OnCleared o sheet q counted = IfOk counted (EndedTogether o sheet q) × IfErr counted (TellsTogether o sheet q ⊥)
