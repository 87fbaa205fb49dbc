-- What a report says of a field that was evaluated again.
use Rattle.std.specs.Prelude.{ℕ, List, Option}
use Rattle.sheet_json.specs.declared.checks.Took.{Took}
use Rattle.check_report.specs.declared.verdict.Verdict.{Verdict}

-- Its number, the name of its session, its input, what it came to, what that took, where it is known, and the lines that say how what came
-- differs: none where nothing differs.
pub record Point : Type 0 where
  pub id : ℕ
  pub session : List ℕ
  pub input : List ℕ
  pub verdict : Verdict
  pub took : Option Took
  pub reported : List ℕ

abbrev pub point : ℕ → List ℕ → List ℕ → Verdict → Option Took → List ℕ → Point
point id session input verdict took reported = record { id = id; session = session; input = input; verdict = verdict; took = took; reported = reported }
