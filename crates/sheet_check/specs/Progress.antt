-- What is to be seen while a check goes on.
use Rattle.std.specs.Prelude.{◌≡◌, ◌+◌, ◌⊎◌, ℕ, Bool, true, false, List, [], ◌∷◌, Result, Ok, Err, if◌then◌else◌}
use Rattle.disk_model.specs.Disk.{DiskView, InModel, bytes_on}
use Rattle.worksheet.specs.declared.field.Field.{Field}
use Rattle.worksheet.specs.Contents.{Contents}
use Rattle.journal.specs.declared.opening.OpenCause.{OpenCause}
use Rattle.recovery.specs.Sheets.{IsSheetImage}
use Rattle.offline_programs.specs.declared.fault.RunFault.{RunFault}
use Rattle.offline_programs.specs.declared.fault.RunFault.TheVariants as fault
use Rattle.check_report.specs.declared.chosen.Chosen.{Chosen}
use Rattle.check_report.specs.declared.report.ReportFormat.{ReportFormat}
use Rattle.check_report.specs.declared.verdict.VerdictCounts.{VerdictCounts}
use Rattle.check_report.specs.declared.verdict.Judgement.{Judgement}
use Rattle.check_report.specs.declared.verdict.Verdict.{Verdict}
use Rattle.check_report.specs.Chosen.{is_chosen}
use Rattle.check_report.specs.Reports.{is_written}
use Rattle.sheet_check.specs.declared.progress.Sight.{Sight}
use Rattle.sheet_check.specs.declared.progress.Sight.TheVariants as sight
use Rattle.check_report.specs.Verdicts.{counted_with, counts_of}
use Rattle.sheet_check.specs.Named.{ByNames, missing_named}
use Rattle.sheet_check.specs.declared.named.CheckFault.{CheckFault}
use Rattle.sheet_check.specs.declared.named.CheckFault.TheVariants as checks

-- how many of these fields are checked
abbrev pub checked_count : Chosen → List Field → ℕ
checked_count chosen [] = 0
checked_count chosen (field ∷ fields) = (if is_chosen chosen field then 1 else 0) + checked_count chosen fields

-- the line is taken away, or left
abbrev pub TakesLine : {P : Type 0} → Bool → (P → Sight → P → Type 0) → P → P → Type 0
TakesLine true S p q = S p sight.Nothing q
TakesLine false S p q = q ≡ p

-- Before a field is written the line is taken away.
abbrev pub MakesRoom : {P : Type 0} → ReportFormat → (P → Sight → P → Type 0) → Verdict → P → P → Type 0
MakesRoom F S verdict p q = TakesLine (is_written F verdict) S p q

-- How a check is shown: in which format its fields are reported, and what it is to show a sight.
pub record Display (P : Type 0) : Type 1 where
  pub format : ReportFormat
  pub shows : P → Sight → P → Type 0

abbrev pub display : {P : Type 0} → ReportFormat → (P → Sight → P → Type 0) → Display P
display F S = record { format = F; shows = S }

-- Fields came to these counts, one after another: after each the line stands with the counts so far, of so many fields in all.
pub data FieldsShow {P : Type 0} (m : Display P) (all : ℕ) (p : P) : VerdictCounts → P → Type 0 where
  none : FieldsShow m all p (counts_of []) p
  more : (one : Judgement) (counts : VerdictCounts) (before free q : P) → FieldsShow m all p counts before → MakesRoom m.format m.shows one.verdict before free
      → m.shows free (sight.Line (counted_with one counts) all) q → FieldsShow m all p (counted_with one counts) q

-- A field that wasn't counted leaves what was shown, or took the line away for what couldn't be reported.
abbrev pub LeavesLine : {P : Type 0} → (P → Sight → P → Type 0) → P → P → Type 0
LeavesLine S p q = (q ≡ p) ⊎ S p sight.Nothing q

-- Some fields were shown so, and the next one wasn't counted.
abbrev pub FieldsLeft : {P : Type 0} → Display P → ℕ → P → P → Type 0
FieldsLeft {P = P} m all p q = (counts : VerdictCounts) × (last : P) × FieldsShow m all p counts last × LeavesLine m.shows last q

-- The fields were shown so up to the counts, or to a fault. Then the line is taken away.
abbrev pub SheetShows : {P : Type 0} → Display P → ℕ → P → P → Result VerdictCounts RunFault → Type 0
SheetShows {P = P} m all p q (Ok counts) = (last : P) × FieldsShow m all p counts last × m.shows last sight.Nothing q
SheetShows {P = P} m all p q (Err why) = (last : P) × FieldsLeft m all p last × m.shows last sight.Nothing q

-- What a check shows: nothing where the disk wasn't opened, or the worksheet on it lacks a field that is named, else the fields of it that are
-- checked.
pub data CheckShows {P : Type 0} (m : Display P) (chosen : Chosen) (disk : DiskView) (p q : P) (answer : Result VerdictCounts CheckFault) : Type 0 where
  unopened : (why : OpenCause) → answer ≡ Err (checks.Run (fault.Open why)) → q ≡ p → CheckShows m chosen disk p q answer
  opened : (sheet : Contents) → InModel disk (IsSheetImage sheet (bytes_on disk))
      → ByNames (missing_named chosen sheet.fields) (q ≡ p) (SheetShows m (checked_count chosen sheet.fields) p q) answer → CheckShows m chosen disk p q answer
