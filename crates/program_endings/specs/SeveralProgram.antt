-- What a check of several worksheets writes beside the report of each, and how it ends: its total is the sum over all of them.
use Rattle.std.specs.Prelude.{◌≡◌, ◌⊎◌, ◌≤◌, ◌*◌, ◌==◌, ◌&&◌, ℕ, Bool, true, false, List, [], ◌∷◌, ◌++◌, Result, Ok, Err, codes, if◌then◌else◌, length, nat_eq}
use Rattle.std.specs.Fmt.{decimal}
use Rattle.std.specs.Io.KnownBytes.{Appends}
use Rattle.std.specs.List.{list_all, sum_by}
use Rattle.sheet_text.specs.Escape.{on_line}
use Rattle.check_report.specs.declared.verdict.VerdictCounts.{VerdictCounts}
use Rattle.check_report.specs.Words.{errors_part, new_part}
use Rattle.offline_programs.specs.declared.fault.RunFault.{RunFault}
use Rattle.offline_programs.specs.declared.fault.RunFault.TheVariants as fault
use Rattle.sheet_check.specs.declared.named.CheckFault.{CheckFault}
use Rattle.sheet_check.specs.declared.named.CheckFault.TheVariants as checks
use Rattle.program_endings.specs.Ending.{EndsAs, status_of}
use Rattle.program_endings.specs.Records.{Streams, text_after, text_before}
use Rattle.program_endings.specs.declared.check_program.CheckEnding.{CheckEnding}
use Rattle.program_endings.specs.declared.ending.Ending.{Ending}
use Rattle.program_endings.specs.declared.several_program.Total.{Total}

-- the line above the report of a worksheet: its path, on one line
abbrev pub worksheet_line : List ℕ → List ℕ
worksheet_line path = codes "worksheet " ++ on_line path ++ 10 ∷ []

-- how many fields of a worksheet came to something; of one whose check met a fault none is counted
abbrev pub counted_by : (VerdictCounts → ℕ) → Result VerdictCounts CheckFault → ℕ
counted_by part (Ok counts) = part counts
counted_by part (Err why) = 0

abbrev pub counted_in : (VerdictCounts → ℕ) → CheckEnding → ℕ
counted_in part end = counted_by part end.answer

-- 1 where its check met a fault
abbrev pub faults_by : Result VerdictCounts CheckFault → ℕ
faults_by (Ok counts) = 0
faults_by (Err why) = 1

abbrev pub faults_in : CheckEnding → ℕ
faults_in end = faults_by end.answer

-- whether the program that checks it alone ends well, and whether all that it had to say went out
abbrev pub is_well : CheckEnding → Bool
is_well end = end.ending.status == 0

abbrev pub went_out : CheckEnding → Bool
went_out end = end.ending.reported

-- The total of checks that ended so: the sums over all of them, whether each ended well, and whether all that each had to say went out.
abbrev pub total_of : List CheckEnding → Total
total_of ends = record {
  worksheets = length ends;
  same = sum_by (counted_in (λ counts. counts.same)) ends;
  differ = sum_by (counted_in (λ counts. counts.differ)) ends;
  unanswered = sum_by (counted_in (λ counts. counts.unanswered)) ends;
  errors = sum_by (counted_in (λ counts. counts.errors)) ends;
  new = sum_by (counted_in (λ counts. counts.new)) ends;
  faults = sum_by faults_in ends;
  passed = list_all is_well ends;
  reported = list_all went_out ends;
}

-- Each count of a total has room for that of one worksheet more.
pub record IsBounded (total : Total) : Type 0 where
  pub same : total.same ≤ total.worksheets * 4294967296
  pub differ : total.differ ≤ total.worksheets * 4294967296
  pub unanswered : total.unanswered ≤ total.worksheets * 4294967296
  pub errors : total.errors ≤ total.worksheets * 4294967296
  pub new : total.new ≤ total.worksheets * 4294967296
  pub faults : total.faults ≤ total.worksheets

-- how many of them met a fault, where some did
abbrev pub faults_part : ℕ → List ℕ
faults_part n = if nat_eq n 0 then [] else codes " faults " ++ decimal n

-- how many they are, and their counts
abbrev pub summed_part : Total → List ℕ
summed_part total = codes "total of " ++ decimal total.worksheets ++ codes " worksheets: same " ++ decimal total.same ++ codes " differ " ++ decimal total.differ ++ codes " unanswered " ++ decimal total.unanswered

-- the last line
abbrev pub total_text : Total → List ℕ
total_text total = summed_part total ++ errors_part total.errors ++ new_part total.new ++ faults_part total.faults ++ 10 ∷ []

-- how the program ends with this total: well where each worksheet did
abbrev pub ending_of : Total → Ending
ending_of total = record { status = status_of (Ok total.passed); reported = total.reported }

-- The total is written last; or the output doesn't take it, and that is a fault.
abbrev pub TotalEnds : {W E : Type 0} → Total → Streams W E → Ending → Type 0
TotalEnds total s ending =
    (Appends (text_before s.output) (text_after s.output) (total_text total) × (s.errors.new ≡ s.errors.old) × (ending ≡ ending_of total))
    ⊎ ((last : Ending) × EndsAs s.errors last (Err fault.Output) × (ending ≡ record { status = 1; reported = total.reported && last.reported }))

-- whether the output failed: nothing more can be written then
abbrev pub failed_output : RunFault → Bool
failed_output fault.Input = false
failed_output fault.InputTooLong = false
failed_output fault.Output = true
failed_output fault.OutOfMemory = false
failed_output (fault.Host why) = false
failed_output (fault.Open why) = false
failed_output fault.InUse = false
failed_output fault.SecondFile = false

abbrev pub is_unwritten : Result VerdictCounts CheckFault → Bool
is_unwritten (Ok counts) = false
is_unwritten (Err (checks.NoField id)) = false
is_unwritten (Err (checks.Run why)) = failed_output why
