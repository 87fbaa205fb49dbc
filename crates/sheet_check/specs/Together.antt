-- What a check leaves whose fields are evaluated side by side: those fields are evaluated on a copy, and nothing is printed; and then comes their report in
-- the worksheet's order. One whose fields are all of one session goes one after another. (docs/use/CHECK.md, "Side by side".)
use Rattle.std.specs.Prelude.{◌≡◌, ◌&&◌, ℕ, Bool, false, true, not, List, [], ◌∷◌, ◌++◌, Option, Some, None, find, Result, Ok, Err}
use Rattle.std.specs.Bool.{MatchBool}
use Rattle.std.specs.List.{list_any}
use Rattle.std.specs.Str.{bytes_eq}
use Rattle.std.specs.Io.KnownBytes.{Appends}
use Rattle.disk_model.specs.Disk.{DiskView, InModel, bytes_on}
use Rattle.worksheet.specs.declared.field.Answer.{Answer}
use Rattle.worksheet.specs.declared.field.Field.{Field}
use Rattle.worksheet.specs.declared.op.Op.TheVariants as op
use Rattle.worksheet.specs.declared.refusal.Refusal.{Refusal}
use Rattle.worksheet.specs.Checks.{first_refusal}
use Rattle.worksheet.specs.Contents.{Contents}
use Rattle.worksheet.specs.Edits.{edited}
use Rattle.journal.specs.declared.opening.OpenCause.{OpenCause}
use Rattle.recovery.specs.Sheets.{IsSheetImage, TellsOfSheet}
use Rattle.session_engine.specs.Host.{HostView}
use Rattle.session_engine.specs.World.{World}
use Rattle.child_edge.specs.Faithful.{At, Relation, at}
use Rattle.child_edge.specs.Seats.{running}
use Rattle.child_edge.specs.Stops.{Stops}
use Rattle.live.specs.Records.{Clock, Watch}
use Rattle.offline_programs.specs.declared.fault.RunFault.{RunFault}
use Rattle.offline_programs.specs.declared.fault.RunFault.TheVariants as fault
use Rattle.check_report.specs.declared.chosen.Chosen.{Chosen}
use Rattle.check_report.specs.declared.report.ReportFormat.{ReportFormat}
use Rattle.check_report.specs.declared.request.Request.{Request}
use Rattle.check_report.specs.declared.verdict.VerdictCounts.{VerdictCounts}
use Rattle.check_report.specs.declared.verdict.Verdict.{Verdict}
use Rattle.check_report.specs.Chosen.{Judged, is_chosen}
use Rattle.check_report.specs.Reports.{Case, case, report_front, report_text, judgements_of}
use Rattle.check_report.specs.Verdicts.{counts_of}
use Rattle.evaluation.specs.declared.plan.Plan.{Plan}
use Rattle.driver.specs.Stopping.{StopsAll}
use Rattle.sheet_check.specs.Check.{IsCopy, Passage, SheetAnswer, world_at_break}
use Rattle.sheet_check.specs.Driven.{DriveBroke, DrivenToEnd, checking_plan}
use Rattle.sheet_check.specs.Evaluated.{Way, came_if, fault_on_copy, one_by_one, reason_shown_in, shown_in, way}
use Rattle.sheet_check.specs.Marks.{is_late}
use Rattle.sheet_check.specs.Named.{ByNames, missing_named}
use Rattle.sheet_check.specs.declared.named.CheckFault.{CheckFault}
use Rattle.sheet_check.specs.declared.named.CheckFault.TheVariants as checks
use Rattle.sheet_check.specs.declared.marks.Mark.{Mark}

-- How fields are checked side by side: how they are evaluated, in how many sessions they wait at a time, which they are, and how they are
-- reported.
pub record SideBySide (C : Type 0) : Type 1 where
  pub way : Way C
  pub jobs : ℕ
  pub chosen : Chosen
  pub format : ReportFormat

abbrev pub side_by_side : {C : Type 0} → Way C → ℕ → Chosen → ReportFormat → SideBySide C
side_by_side o jobs chosen F = record { way = o; jobs = jobs; chosen = chosen; format = F }

-- as a request asks for it, in so many sessions at a time
abbrev pub together_by : {C : Type 0} → Relation C → Clock C → Watch C → ℕ → Request → SideBySide C
together_by R K W jobs request = side_by_side (way R K W request.limit) jobs request.chosen request.format

-- a number, where its field is checked
abbrev pub id_of_chosen : Bool → ℕ → List ℕ
id_of_chosen false id = []
id_of_chosen true id = id ∷ []

-- the numbers of the fields that are checked, in the worksheet's order
abbrev pub checked_ids : Chosen → List Field → List ℕ
checked_ids chosen [] = []
checked_ids chosen (field ∷ fields) = id_of_chosen (is_chosen chosen field) field.id ++ checked_ids chosen fields

-- a worksheet after the field with this number was cleared, where it has one
abbrev pub cleared_if : Option Refusal → Contents → ℕ → Contents
cleared_if None sheet id = edited sheet (op.Clear id)
cleared_if (Some why) sheet id = sheet

-- why a worksheet refuses to clear the field with this number, where it does
abbrev pub refusal_of : Contents → ℕ → Option Refusal
refusal_of sheet id = first_refusal sheet (op.Clear id)

abbrev pub cleared_at : Bool → Contents → ℕ → Contents
cleared_at false sheet id = sheet
cleared_at true sheet id = cleared_if (refusal_of sheet id) sheet id

-- The worksheet after those of these fields that are checked were cleared, one after another, so that they show nothing.
abbrev pub cleared : Chosen → List Field → Contents → Contents
cleared chosen [] sheet = sheet
cleared chosen (field ∷ fields) sheet = cleared chosen fields (cleared_at (is_chosen chosen field) sheet field.id)

-- the plan of those of these fields that are checked
abbrev pub checking : {C : Type 0} → SideBySide C → List Field → Plan
checking o fields = checking_plan (checked_ids o.chosen fields) o.way.limit o.jobs

-- The answer that came to a field: the one that it shows on the copy at the end, and none where its time was over.
abbrev pub came_by : World → List Mark → ℕ → Option Answer
came_by w marks id = came_if (not (is_late marks id)) (shown_in w id)

-- A field was compared: where it is one of those that are checked, what came was judged by the answer that it shows. The case that this is,
-- where it is one; what its evaluation took isn't known.
pub data FieldCompared (chosen : Chosen) (w : World) (marks : List Mark) (field : Field) : List Case → Type 0 where
  passed : is_chosen chosen field ≡ false → FieldCompared chosen w marks field []
  compared : (verdict : Verdict) → is_chosen chosen field ≡ true → Judged chosen field (came_by w marks field.id) verdict
      → FieldCompared chosen w marks field (case field (came_by w marks field.id) (reason_shown_in w field.id) verdict None ∷ [])

-- fields were compared, one after another
abbrev pub FieldsCompared : Chosen → World → List Mark → List Field → List Case → Type 0
FieldsCompared chosen w marks [] cases = cases ≡ []
FieldsCompared chosen w marks (field ∷ fields) cases =
    (one : List Case) × (others : List Case) × FieldCompared chosen w marks field one × FieldsCompared chosen w marks fields others × (cases ≡ one ++ others)

-- On a copy of this worksheet, on which the fields that are checked show nothing, these were evaluated up to the end, and then each life that
-- goes on was stopped.
pub record EvaluatedTogether {C : Type 0} (o : SideBySide C) (sheet : Contents) (c d : C) (leads : World) (marks : List Mark) : Type 0 where
  pub start : World
  pub copy : DiskView
  pub copied : IsCopy (cleared o.chosen sheet.fields sheet) start copy
  pub came : At C
  pub world_is : came.world ≡ leads
  pub evaluated : DrivenToEnd o.way (checking o sheet.fields) (at start c copy) marks came
  pub stops : Stops o.way.after (running leads) came.children d

-- So they were evaluated, and their report was written, in the worksheet's order. These are the counts.
pub record TogetherChecked {C : Type 0} (o : SideBySide C) (sheet : Contents) (q : Passage C) (counts : VerdictCounts) : Type 0 where
  pub leads : World
  pub marks : List Mark
  pub evaluated : EvaluatedTogether o sheet q.sources q.left leads marks
  pub cases : List Case
  pub compared : FieldsCompared o.chosen leads marks sheet.fields cases
  pub counted : counts ≡ counts_of (judgements_of cases)
  pub wrote : Appends q.text q.written (report_text o.format cases)

-- The evaluation broke off, and then each life that goes on was stopped.
pub record TogetherBroke {C : Type 0} (o : SideBySide C) (sheet : Contents) (c d : C) (why : RunFault) : Type 0 where
  pub start : World
  pub copy : DiskView
  pub copied : IsCopy (cleared o.chosen sheet.fields sheet) start copy
  pub host : HostView
  pub sources : C
  pub cause : RunFault
  pub is : why ≡ fault_on_copy cause
  pub broke : DriveBroke o.way (checking o sheet.fields) (at start c copy) host sources cause
  pub stops : StopsAll o.way.after host (world_at_break broke) sources d

-- The fields were evaluated, and the first of them were reported, which are these cases.
pub record TogetherReported {C : Type 0} (o : SideBySide C) (sheet : Contents) (c d : C) (cases : List Case) : Type 0 where
  pub leads : World
  pub marks : List Mark
  pub evaluated : EvaluatedTogether o sheet c d leads marks
  pub gone : List Field
  pub left : List Field
  pub split : sheet.fields ≡ gone ++ left
  pub compared : FieldsCompared o.chosen leads marks gone cases

-- What a fault leaves. Nothing is written before the last answer came; where there is no memory for a line what was reported before is; and
-- where the writer fails a part may have gone out.
pub data TellsTogether {C : Type 0} (o : SideBySide C) (sheet : Contents) (q : Passage C) (nothing : Type 0) (why : RunFault) : Type 0 where
  not_begun : why ≡ fault.OutOfMemory → nothing → TellsTogether o sheet q nothing why
  broke : TogetherBroke o sheet q.sources q.left why → Appends q.text q.written [] → TellsTogether o sheet q nothing why
  no_memory : (cases : List Case) → why ≡ fault.OutOfMemory → TogetherReported o sheet q.sources q.left cases → Appends q.text q.written (report_front o.format cases) → TellsTogether o sheet q nothing why
  unwritten : (cases : List Case) → why ≡ fault.Output → TogetherReported o sheet q.sources q.left cases → TellsTogether o sheet q nothing why

-- what becomes of a check of this worksheet side by side
abbrev pub TogetherTells : {C : Type 0} → SideBySide C → Contents → Passage C → Type 0 → Result VerdictCounts RunFault → Type 0
TogetherTells o sheet q nothing (Ok counts) = TogetherChecked o sheet q counts
TogetherTells o sheet q nothing (Err why) = TellsTogether o sheet q nothing why

-- whether a field is checked, and isn't of this session
abbrev pub is_checked_beside : Chosen → List ℕ → Field → Bool
is_checked_beside chosen session field = is_chosen chosen field && not (bytes_eq field.session session)

-- whether one of these fields is checked that isn't of the session of this one
abbrev pub any_beside : Chosen → List Field → Option Field → Bool
any_beside chosen fields None = false
any_beside chosen fields (Some first) = list_any (is_checked_beside chosen first.session) fields

-- Whether those of these fields that are checked are of several sessions: one of them isn't of the session of the first.
abbrev pub have_several : Chosen → List Field → Bool
have_several chosen fields = any_beside chosen fields (find (is_chosen chosen) fields)

-- What becomes of a check of this worksheet: they go side by side where they are of several sessions, and else one after another, each
-- reported when it is known.
abbrev pub TellsBySessions : {C : Type 0} → SideBySide C → Contents → Passage C → Type 0 → Result VerdictCounts RunFault → Type 0
TellsBySessions o sheet q nothing answer =
    MatchBool (have_several o.chosen sheet.fields) (TogetherTells o sheet q nothing answer) (SheetAnswer (one_by_one o.way o.chosen o.format) sheet q nothing answer)

-- What the check answers: that the disk wasn't opened, where nothing was done; that the worksheet on it lacks a field that is named, where nothing was
-- done either; or what becomes of a check of that worksheet.
pub data TogetherAnswer {C : Type 0} (o : SideBySide C) (disk : DiskView) (q : Passage C) (nothing : Type 0) (answer : Result VerdictCounts CheckFault) : Type 0 where
  unopened : (why : OpenCause) → answer ≡ Err (checks.Run (fault.Open why)) → nothing → InModel disk (TellsOfSheet (bytes_on disk) why) → TogetherAnswer o disk q nothing answer
  opened : (sheet : Contents) → InModel disk (IsSheetImage sheet (bytes_on disk)) → ByNames (missing_named o.chosen sheet.fields) nothing (TellsBySessions o sheet q nothing) answer
      → TogetherAnswer o disk q nothing answer
