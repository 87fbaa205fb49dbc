-- What `check` leaves where answers that differ or are new are accepted: on the copy what it leaves without, and on the disk those answers.
use Rattle.std.specs.Prelude.{◌≡◌, ◌⊎◌, ℕ, List, [], ◌∷◌, ◌++◌, Option, Some, None, Result, Ok, Err}
use Rattle.std.specs.List.{flat_map}
use Rattle.std.specs.Io.KnownBytes.{Appends}
use Rattle.disk_model.specs.Disk.{DiskView, InModel, Leaves, LeavesOnly, Looks, SameDisk, bytes_on}
use Rattle.worksheet.specs.declared.op.Op.{Op}
use Rattle.worksheet.specs.declared.field.Answer.{Answer}
use Rattle.worksheet.specs.Contents.{Contents}
use Rattle.worksheet.specs.Ops.{sheet_of}
use Rattle.journal.specs.declared.opening.OpenCause.{OpenCause}
use Rattle.recovery.specs.Sheets.{IsSheetImage, TellsOfSheet}
use Rattle.sheet_check.specs.Kept.{HoldsAll, HoldsBut, IsAmong, NoPlace, answer_op}
use Rattle.host_events.specs.declared.outcome.HostFault.TheVariants as hosts
use Rattle.child_edge.specs.Faithful.{Relation}
use Rattle.live.specs.Records.{Clock, Watch}
use Rattle.offline_programs.specs.declared.fault.RunFault.{RunFault}
use Rattle.offline_programs.specs.declared.fault.RunFault.TheVariants as fault
use Rattle.check_report.specs.declared.chosen.Chosen.{Chosen}
use Rattle.check_report.specs.declared.report.ReportFormat.TheVariants as format
use Rattle.check_report.specs.declared.request.Request.{Request}
use Rattle.check_report.specs.declared.verdict.VerdictCounts.{VerdictCounts}
use Rattle.check_report.specs.declared.verdict.Verdict.{Verdict}
use Rattle.check_report.specs.declared.verdict.Verdict.TheVariants as verdict
use Rattle.check_report.specs.Reports.{Case, report_front}
use Rattle.sheet_check.specs.Check.{OnlyRead, Passage, SheetBroke, SheetChecked, SheetLed}
use Rattle.sheet_check.specs.Evaluated.{OneByOne, Way, one_by_one, way}
use Rattle.sheet_check.specs.Named.{ByNames, missing_named}
use Rattle.sheet_check.specs.declared.named.CheckFault.{CheckFault}
use Rattle.sheet_check.specs.declared.named.CheckFault.TheVariants as checks

-- how fields are checked one after another, and reported with what is accepted
abbrev pub to_accept : {C : Type 0} → Way C → Chosen → OneByOne C
to_accept o chosen = one_by_one o chosen format.Accepting

-- as a request asks for it
abbrev pub accepting_by : {C : Type 0} → Relation C → Clock C → Watch C → Request → OneByOne C
accepting_by R K W request = to_accept (way R K W request.limit) request.chosen

-- the answer that is accepted, of the one that came: where its output differs or is new, that one
abbrev pub accepted_answer : Option Answer → Verdict → Option Answer
accepted_answer came verdict.Same = None
accepted_answer came verdict.Differs = came
accepted_answer came verdict.Unanswered = None
accepted_answer came verdict.LeftOut = None
accepted_answer came verdict.New = came

-- the op that puts an answer into a field, where there is one
abbrev pub answer_ops : ℕ → Option Answer → List Op
answer_ops id None = []
answer_ops id (Some answer) = answer_op id answer ∷ []

-- what is accepted of a field that was checked
abbrev pub accepted_of : Case → List Op
accepted_of c = answer_ops c.field.id (accepted_answer c.came c.verdict)

-- what is accepted of fields: the answers that differ or are new, in their order
abbrev pub accepted : List Case → List Op
accepted cases = flat_map accepted_of cases

-- A disk was opened to write: there the worksheet of these ops was found, and made durable. That changed no byte, and no moment of it left
-- an image that is new; this is the disk after it.
pub record FoundOn (disk : DiskView) (sheet : Contents) (ops : List Op) (now : DiskView) : Type 0 where
  pub is : sheet ≡ sheet_of ops
  pub same : SameDisk disk now
  pub steady : now.faults ≡ disk.faults
  pub found : InModel disk (IsSheetImage sheet (bytes_on disk))
  pub looks : InModel disk (Looks disk.history now.history)
  pub durable : InModel disk (Leaves (IsSheetImage sheet) now.history.now)

-- Answers are put after these ops on a disk: the disk before that, and after it; and what the output held while a disk was in which state.
pub record Filing : Type 1 where
  pub held : Option (List ℕ) → DiskView → Type 0
  pub ops : List Op
  pub before : DiskView
  pub after : DiskView

abbrev pub filing : (Option (List ℕ) → DiskView → Type 0) → List Op → DiskView → DiskView → Filing
filing held ops before after = record { held = held; ops = ops; before = before; after = after }

-- A case was reported after those before it, on an output that held these bytes at first; `put` are all ops that were put. When the text of this case was tried
-- the output held the report of those, and the disk was in this state: `held` says that there was such a moment. Each byte after these was written later, and
-- from that state on each image has what is accepted of this case and of those, and some of the first of the rest.
pub record ReportedAfter (x : Filing) (at_first : Option (List ℕ)) (put : List Op) (before : List Case) (one : Case) : Type 0 where
  pub printed : Option (List ℕ)
  pub disk : DiskView
  pub begins : Appends at_first printed (report_front format.Accepting before)
  pub held : x.held printed disk
  pub rest : List Op
  pub split : put ≡ accepted (before ++ one ∷ []) ++ rest
  pub since : InModel x.before (LeavesOnly (IsAmong (x.ops ++ accepted (before ++ one ∷ [])) rest) disk.history x.after.history)

-- each of these cases was, after those before it
abbrev pub EachReported : Filing → Option (List ℕ) → List Op → List Case → List Case → Type 0
EachReported x text put before [] = Unit {0}
EachReported x text put before (one ∷ cases) = ReportedAfter x text put before one × EachReported x text put (before ++ one ∷ []) cases

-- On the disk is what is accepted of these cases, and no more. What is accepted of each was there before that case was reported.
abbrev pub FiledAll : Filing → Option (List ℕ) → List Case → Type 0
FiledAll x text cases = HoldsAll x.ops (accepted cases) x.before x.after × EachReported x text (accepted cases) [] cases

-- The same, and perhaps this op, at which the disk failed.
abbrev pub FiledBut : Filing → Option (List ℕ) → List Case → Op → Type 0
FiledBut x text cases one = HoldsBut x.ops (accepted cases) one x.before x.after × EachReported x text (accepted cases ++ one ∷ []) [] cases

-- Why it ended early, and what that leaves from one disk to the other. What was reported is on the disk, and but for the last two no more.
pub data AcceptLeft {C : Type 0} (o : OneByOne C) (sheet : Contents) (q : Passage C) (x : Filing) (why : RunFault) : Type 0 where
  -- the evaluation of the next field broke off
  halted : (cases : List Case) → SheetBroke o sheet q.sources q.left cases why → Appends q.text q.written (report_front o.format cases) → FiledAll x q.text cases → AcceptLeft o sheet q x why
  -- there was no memory for its line, or for what is reported of it
  unremembered : (cases : List Case) → why ≡ fault.OutOfMemory → SheetLed o sheet q.sources q.left cases → Appends q.text q.written (report_front o.format cases) → FiledAll x q.text cases
      → AcceptLeft o sheet q x why
  -- the answer to the last field doesn't fit
  full : (cases : List Case) (last : Case) (one : Op) → why ≡ fault.Host hosts.JournalFull → SheetLed o sheet q.sources q.left (cases ++ last ∷ [])
      → accepted_of last ≡ one ∷ [] → Appends q.text q.written (report_front o.format cases) → FiledAll x q.text cases → NoPlace one x.after → AcceptLeft o sheet q x why
  -- the disk failed at the answer to the last field
  broken : (cases : List Case) (last : Case) (one : Op) → why ≡ fault.Host hosts.Disk → SheetLed o sheet q.sources q.left (cases ++ last ∷ [])
      → accepted_of last ≡ one ∷ [] → Appends q.text q.written (report_front o.format cases) → FiledBut x q.text cases one → AcceptLeft o sheet q x why
  -- The writer failed at the text of the last of these: those before it were written, and its answer is on the disk, too.
  unwritten : (cases : List Case) (last : Case) → why ≡ fault.Output → SheetLed o sheet q.sources q.left (cases ++ last ∷ []) → FiledAll x q.text (cases ++ last ∷ [])
      → AcceptLeft o sheet q x why
  -- it failed at the counts, when all fields had been checked
  uncounted : (cases : List Case) → why ≡ fault.Output → (led : SheetLed o sheet q.sources q.left cases) → led.left ≡ [] → FiledAll x q.text cases → AcceptLeft o sheet q x why

-- What becomes of the check of a worksheet whose answers that differ or are new are accepted: the report of them is written, and exactly those
-- answers are put after its ops. A lack of memory may be reported before the copy is there.
abbrev pub SheetAccepts : {C : Type 0} → OneByOne C → Contents → Passage C → Type 0 → Filing → Result VerdictCounts RunFault → Type 0
SheetAccepts o sheet q nothing x (Ok counts) = (checked : SheetChecked o sheet q counts) × FiledAll x q.text checked.cases
SheetAccepts o sheet q nothing x (Err why) = ((why ≡ fault.OutOfMemory) × nothing × FiledAll x q.text []) ⊎ AcceptLeft o sheet q x why

-- The disk of an acceptance before it and after it, and what its output held while a disk was in which state.
pub record Acceptance : Type 1 where
  pub held : Option (List ℕ) → DiskView → Type 0
  pub disk : DiskView
  pub back : DiskView

abbrev pub acceptance : (Option (List ℕ) → DiskView → Type 0) → DiskView → DiskView → Acceptance
acceptance held disk back = record { held = held; disk = disk; back = back }

-- What is answered: that the disk wasn't opened, where nothing was done and no byte of it was changed; that the worksheet on it lacks a field that
-- is named, where nothing was done and the disk is as it was found; or what becomes of that worksheet.
pub data AcceptAnswer {C : Type 0} (o : OneByOne C) (x : Acceptance) (q : Passage C) (nothing : Type 0) (answer : Result VerdictCounts CheckFault) : Type 0 where
  unopened : (why : OpenCause) → answer ≡ Err (checks.Run (fault.Open why)) → nothing → InModel x.disk (TellsOfSheet (bytes_on x.disk) why) → OnlyRead x.disk x.back
      → AcceptAnswer o x q nothing answer
  opened : (sheet : Contents) (ops : List Op) (now : DiskView) → FoundOn x.disk sheet ops now
      → ByNames (missing_named o.chosen sheet.fields) (nothing × (x.back ≡ now)) (SheetAccepts o sheet q nothing (filing x.held ops now x.back)) answer
      → AcceptAnswer o x q nothing answer
