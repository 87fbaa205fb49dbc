-- What `check` leaves: on the copy the evaluations of its fields, of the disk that was given reads alone.
use Rattle.std.specs.Prelude.{◌≡◌, IsTrue, ℕ, true, List, ◌∷◌, ◌++◌, Option, Result, Ok, Err}
use Rattle.std.specs.Io.KnownBytes.{Appends}
use Rattle.disk_model.specs.Disk.{DiskView, InModel, Looks, SameDisk, bytes_on, greatest_room}
use Rattle.worksheet.specs.declared.field.Field.{Field}
use Rattle.worksheet.specs.Contents.{Contents}
use Rattle.journal.specs.declared.opening.OpenCause.{OpenCause}
use Rattle.recovery.specs.Sheets.{IsSheetImage, TellsOfSheet}
use Rattle.session_engine.specs.Host.{HostView}
use Rattle.session_engine.specs.World.{World, sheet_in}
use Rattle.child_edge.specs.Faithful.{At, at}
use Rattle.child_edge.specs.Kept.{HoldsSheet}
use Rattle.child_edge.specs.Seats.{running}
use Rattle.child_edge.specs.Stops.{Stops}
use Rattle.sheet_check.specs.Opened.{OpenedOn}
use Rattle.offline_programs.specs.declared.fault.RunFault.{RunFault}
use Rattle.offline_programs.specs.declared.fault.RunFault.TheVariants as fault
use Rattle.check_report.specs.declared.chosen.Chosen.{Chosen}
use Rattle.check_report.specs.declared.verdict.VerdictCounts.{VerdictCounts}
use Rattle.check_report.specs.Chosen.{is_chosen}
use Rattle.check_report.specs.Reports.{Case, report_front, report_text, judgements_of}
use Rattle.check_report.specs.Verdicts.{counts_of}
use Rattle.evaluation.specs.declared.plan.Plan.{Plan}
use Rattle.driver.specs.Stopping.{StopsAll}
use Rattle.sheet_check.specs.Driven.{DriveBroke, DrivenToEnd, IsOfEvaluation, broke_off, one_plan, unplanned}
use Rattle.sheet_check.specs.Evaluated.{OneByOne, Way, fault_on_copy}
use Rattle.sheet_check.specs.Fields.{FieldsChecked}
use Rattle.sheet_check.specs.Named.{ByNames, missing_named}
use Rattle.sheet_check.specs.declared.named.CheckFault.{CheckFault}
use Rattle.sheet_check.specs.declared.named.CheckFault.TheVariants as checks
use Rattle.sheet_check.specs.declared.marks.Mark.{Mark}

-- From the first of these sources to the last a check ran, and from the first text to the last it wrote.
pub record Passage (C : Type 0) : Type 0 where
  pub sources : C
  pub left : C
  pub text : Option (List ℕ)
  pub written : Option (List ℕ)

abbrev pub passage : {C : Type 0} → C → C → Option (List ℕ) → Option (List ℕ) → Passage C
passage c d a b = record { sources = c; left = d; text = a; written = b }

-- A disk that keeps the model and has as much room as one may have was made an image of this worksheet, and a host was opened on it: this
-- is its world, which has that worksheet and in which no life goes on, and its disk.
pub record IsCopy (sheet : Contents) (w : World) (copy : DiskView) : Type 0 where
  pub made : DiskView
  pub keeps : IsTrue made.keeps_model
  pub room : made.room ≡ greatest_room
  pub is : IsSheetImage sheet (bytes_on made)
  pub opened : OpenedOn made w copy
  pub has : sheet_in w ≡ sheet
  pub holds : HoldsSheet w copy

-- All fields of the worksheet were checked on a copy of it, in their order, and then each life that goes on was stopped. Their report was
-- written, and these are the counts.
pub record SheetChecked {C : Type 0} (o : OneByOne C) (sheet : Contents) (q : Passage C) (counts : VerdictCounts) : Type 0 where
  pub start : World
  pub copy : DiskView
  pub copied : IsCopy sheet start copy
  pub cases : List Case
  pub leads : At C
  pub checked : FieldsChecked o.way o.chosen sheet.fields (at start q.sources copy) cases leads
  pub stops : Stops o.way.after (running leads.world) leads.children q.left
  pub counted : counts ≡ counts_of (judgements_of cases)
  pub wrote : Appends q.text q.written (report_text o.format cases)

-- The first of these fields is one of those that are checked.
pub record FirstChosen (chosen : Chosen) (fields : List Field) (field : Field) : Type 0 where
  pub others : List Field
  pub is : fields ≡ field ∷ others
  pub chosen_is : is_chosen chosen field ≡ true

-- The first of these fields, which is checked, was evaluated up to its end, or nothing was done.
pub data FirstLed {C : Type 0} (o : OneByOne C) (fields : List Field) (s t : At C) : Type 0 where
  still : t ≡ s → FirstLed o fields s t
  evaluated : (field : Field) (marks : List Mark) → FirstChosen o.chosen fields field → DrivenToEnd o.way (one_plan o.way field.id) s marks t → FirstLed o fields s t

-- Its evaluation broke off, and this is the fault of the check.
pub record FirstBroke {C : Type 0} (o : OneByOne C) (fields : List Field) (s : At C) (h : HostView) (c : C) (why : RunFault) : Type 0 where
  pub field : Field
  pub first : FirstChosen o.chosen fields field
  pub cause : RunFault
  pub is : why ≡ fault_on_copy cause
  pub of : IsOfEvaluation why
  pub broke : DriveBroke o.way (one_plan o.way field.id) s h c cause

-- where events had led then
abbrev pub world_at_break : {C : Type 0} {o : Way C} {plan : Plan} {s : At C} {h : HostView} {c : C} {why : RunFault} → DriveBroke o plan s h c why → World
world_at_break {s = s} (unplanned is same stands) = s.world
world_at_break (broke_off b) = b.world

-- The first fields were checked, which are these cases, and then the next one led on so far. Then each life that goes on was stopped.
pub record SheetLed {C : Type 0} (o : OneByOne C) (sheet : Contents) (c d : C) (cases : List Case) : Type 0 where
  pub start : World
  pub copy : DiskView
  pub copied : IsCopy sheet start copy
  pub gone : List Field
  pub left : List Field
  pub split : sheet.fields ≡ gone ++ left
  pub mid : At C
  pub checked : FieldsChecked o.way o.chosen gone (at start c copy) cases mid
  pub leads : At C
  pub led : FirstLed o left mid leads
  pub stops : Stops o.way.after (running leads.world) leads.children d

-- The first fields were checked, which are these cases, and the evaluation of the next one broke off. Then each life that goes on was stopped.
pub record SheetBroke {C : Type 0} (o : OneByOne C) (sheet : Contents) (c d : C) (cases : List Case) (why : RunFault) : Type 0 where
  pub start : World
  pub copy : DiskView
  pub copied : IsCopy sheet start copy
  pub gone : List Field
  pub left : List Field
  pub split : sheet.fields ≡ gone ++ left
  pub mid : At C
  pub checked : FieldsChecked o.way o.chosen gone (at start c copy) cases mid
  pub host : HostView
  pub sources : C
  pub broke : FirstBroke o left mid host sources why
  pub stops : StopsAll o.way.after host (world_at_break broke.broke) sources d

-- What a fault of a check of this worksheet leaves: what was reported is written, but where the writer failed. A lack of memory may be
-- reported before the copy is there.
pub data TellsCheck {C : Type 0} (o : OneByOne C) (sheet : Contents) (q : Passage C) (nothing : Type 0) (why : RunFault) : Type 0 where
  not_begun : why ≡ fault.OutOfMemory → nothing → TellsCheck o sheet q nothing why
  -- the evaluation of the next field broke off
  halted : (cases : List Case) → SheetBroke o sheet q.sources q.left cases why → Appends q.text q.written (report_front o.format cases) → TellsCheck o sheet q nothing why
  -- there was no memory for its line, or for what is reported of it
  unremembered : (cases : List Case) → why ≡ fault.OutOfMemory → SheetLed o sheet q.sources q.left cases → Appends q.text q.written (report_front o.format cases) → TellsCheck o sheet q nothing why
  -- the writer failed at the text of the last field, or at the counts
  unwritten : (cases : List Case) → why ≡ fault.Output → SheetLed o sheet q.sources q.left cases → TellsCheck o sheet q nothing why

-- what becomes of a check of this worksheet
abbrev pub SheetAnswer : {C : Type 0} → OneByOne C → Contents → Passage C → Type 0 → Result VerdictCounts RunFault → Type 0
SheetAnswer o sheet q nothing (Ok counts) = SheetChecked o sheet q counts
SheetAnswer o sheet q nothing (Err why) = TellsCheck o sheet q nothing why

-- What a check answers: that the disk wasn't opened, where nothing was done; that the worksheet on it lacks a field that is named, where nothing was
-- done either; or what becomes of a check of that worksheet.
pub data CheckAnswer {C : Type 0} (o : OneByOne C) (disk : DiskView) (q : Passage C) (nothing : Type 0) (answer : Result VerdictCounts CheckFault) : Type 0 where
  unopened : (why : OpenCause) → answer ≡ Err (checks.Run (fault.Open why)) → nothing → InModel disk (TellsOfSheet (bytes_on disk) why) → CheckAnswer o disk q nothing answer
  opened : (sheet : Contents) → InModel disk (IsSheetImage sheet (bytes_on disk)) → ByNames (missing_named o.chosen sheet.fields) nothing (SheetAnswer o sheet q nothing) answer
      → CheckAnswer o disk q nothing answer

-- The disk afterwards: reads alone were made on it, or syncs, which change no byte of it and leave no image that is new.
pub record OnlyRead (old new : DiskView) : Type 0 where
  pub same : SameDisk old new
  pub looks : InModel old (Looks old.history new.history)
