-- Fields that a check names by their numbers: those whose outputs aren't compared, and those whose outputs alone are. Where a worksheet lacks one
-- of them, that is the fault, and nothing is done.
use Rattle.std.specs.Prelude.{◌≡◌, ◌||◌, ℕ, Bool, List, Option, Some, None, Result, Ok, Err, find, if◌then◌else◌}
use Rattle.std.specs.Option.{option_map}
use Rattle.worksheet.specs.declared.field.Field.{Field}
use Rattle.offline_programs.specs.declared.fault.RunFault.{RunFault}
use Rattle.check_report.specs.declared.chosen.Chosen.{Chosen}
use Rattle.check_report.specs.declared.chosen.Ids.{Ids}
use Rattle.check_report.specs.declared.verdict.VerdictCounts.{VerdictCounts}
use Rattle.evaluation.specs.Meant.{is_missing}
use Rattle.sheet_check.specs.declared.named.CheckFault.{CheckFault}
use Rattle.sheet_check.specs.declared.named.CheckFault.TheVariants as checks

-- Of numbers from one to another the first and the last are named. Whether no field has one of these two.
abbrev pub lacks_end : List Field → Ids → Bool
lacks_end fields ids = is_missing fields ids.first || is_missing fields ids.last

-- which of them that is, and of two the first
abbrev pub missing_end : List Field → Ids → ℕ
missing_end fields ids = if is_missing fields ids.first then ids.first else ids.last

-- The first of these ends that no field has. Whether each number between two ends has a field isn't asked.
abbrev pub missing_of : List Field → List Ids → Option ℕ
missing_of fields ids = option_map (missing_end fields) (find (lacks_end fields) ids)

abbrev pub missing_compared : List Field → Option (List Ids) → Option ℕ
missing_compared fields None = None
missing_compared fields (Some ids) = missing_of fields ids

abbrev pub first_of_both : Option ℕ → Option ℕ → Option ℕ
first_of_both None other = other
first_of_both (Some id) other = Some id

-- The first number that is named and that no field has: of those that are left out, and then of those that are compared.
abbrev pub missing_named : Chosen → List Field → Option ℕ
missing_named chosen fields = first_of_both (missing_of fields chosen.left_out) (missing_compared fields chosen.compared)

-- what a check answers by what came of it
abbrev pub answer_as : Result VerdictCounts RunFault → Result VerdictCounts CheckFault
answer_as (Ok counts) = Ok counts
answer_as (Err why) = Err (checks.Run why)

-- What a check answers, by the number that is named and that no field has. Where there is one, that is the fault, and nothing was done. Else this
-- came of it.
pub data ByNames (missing : Option ℕ) (nothing : Type 0) (Came : Result VerdictCounts RunFault → Type 0) (answer : Result VerdictCounts CheckFault) : Type 0 where
  no_field : (id : ℕ) → missing ≡ Some id → answer ≡ Err (checks.NoField id) → nothing → ByNames missing nothing Came answer
  all_named : (counted : Result VerdictCounts RunFault) → missing ≡ None → answer ≡ answer_as counted → Came counted → ByNames missing nothing Came answer
