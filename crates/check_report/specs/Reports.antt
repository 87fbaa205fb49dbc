-- A report, in each of its formats.
use Rattle.std.specs.Prelude.{ℕ, ◌+◌, Bool, true, false, List, [], ◌∷◌, ◌++◌, Option, map}
use Rattle.std.specs.Io.KnownBytes.{Appends}
use Rattle.block_tree.specs.declared.reason.Reason.{Reason}
use Rattle.worksheet.specs.declared.field.Answer.{Answer}
use Rattle.worksheet.specs.declared.field.Field.{Field}
use Rattle.check_report.specs.declared.cases.Case as code
use Rattle.check_report.specs.declared.report.ReportFormat.{ReportFormat}
use Rattle.check_report.specs.declared.report.ReportFormat.TheVariants as format
use Rattle.check_report.specs.declared.report.ReportFault.{ReportFault}
use Rattle.check_report.specs.declared.report.ReportFault.TheVariants as fault
use Rattle.check_report.specs.declared.verdict.VerdictCounts.{VerdictCounts}
use Rattle.check_report.specs.declared.verdict.Judgement.{Judgement}
use Rattle.check_report.specs.declared.verdict.Verdict.{Verdict}
use Rattle.check_report.specs.declared.verdict.Verdict.TheVariants as verdict
use Rattle.check_report.specs.Verdicts.{counts_of, judgement_of, total}
use Rattle.check_report.specs.Points.{Point, point}
use Rattle.check_report.specs.Words.{acceptance_text, accepted_counts_text, counts_text, verdict_text, whole_text}
use Rattle.check_report.specs.Tap.{plan_line, tap_point, version_line}
use Rattle.check_report.specs.Junit.{head, junit_case, tail}
use Rattle.check_report.specs.Json.{checked_reported, json_head, json_tail}
use Rattle.sheet_json.specs.Sheets.{telling_line}
use Rattle.sheet_json.specs.Tellings.{Telling}
use Rattle.sheet_json.specs.declared.checks.Took.{Took}

-- A field that was evaluated: the answer that came, or none; the reason that the field then shows for none, where it shows one; what that
-- came to; and what it took, where that is known.
pub record Case : Type 0 where
  pub field : Field
  pub came : Option Answer
  pub lost : Option Reason
  pub verdict : Verdict
  pub took : Option Took

abbrev pub case : Field → Option Answer → Option Reason → Verdict → Option Took → Case
case field came lost verdict took = record { field = field; came = came; lost = lost; verdict = verdict; took = took }

-- the same of one that a report is given, which has a number too
abbrev pub case_in : code.Case → Case
case_in c = case c.field.now c.came.now c.lost c.verdict c.took

-- what is said of it in a format that programs read
abbrev pub point_of : Case → Point
point_of c = point c.field.id c.field.session c.field.input c.verdict c.took (verdict_text c.field c.came c.lost c.verdict)

-- what cases are counted as
abbrev pub judgements_of : List Case → List Judgement
judgements_of cases = map (λ c. judgement_of c.came c.verdict) cases

-- the same in JSON
abbrev pub telling_of : Case → Telling
telling_of c = checked_reported c.field c.came c.lost c.verdict c.took

-- what stands first
abbrev pub opening_text : ReportFormat → List ℕ
opening_text format.Text = []
opening_text format.Whole = []
opening_text format.Tap = version_line
opening_text format.Junit = head
opening_text format.Json = json_head
opening_text format.Accepting = []

-- what is written of a case, of which this is the number
abbrev pub case_text : ReportFormat → ℕ → Case → List ℕ
case_text format.Text number c = verdict_text c.field c.came c.lost c.verdict
case_text format.Whole number c = whole_text c.field c.came c.lost c.verdict
case_text format.Tap number c = tap_point number (point_of c)
case_text format.Junit number c = junit_case (point_of c)
case_text format.Json number c = telling_line (telling_of c)
case_text format.Accepting number c = acceptance_text c.field c.came c.lost c.verdict

-- the same of cases, one after another, of which the first has this number
abbrev pub cases_text : ReportFormat → ℕ → List Case → List ℕ
cases_text F number [] = []
cases_text F number (c ∷ cases) = case_text F number c ++ cases_text F (number + 1) cases

-- what stands last
abbrev pub closing_text : ReportFormat → VerdictCounts → List ℕ
closing_text format.Text counts = counts_text counts
closing_text format.Whole counts = counts_text counts
closing_text format.Tap counts = plan_line (total counts)
closing_text format.Junit counts = tail
closing_text format.Json counts = json_tail counts
closing_text format.Accepting counts = accepted_counts_text counts

-- a report up to here
abbrev pub report_front : ReportFormat → List Case → List ℕ
report_front F cases = opening_text F ++ cases_text F 1 cases

-- a whole report
abbrev pub report_text : ReportFormat → List Case → List ℕ
report_text F cases = report_front F cases ++ closing_text F (counts_of (judgements_of cases))

abbrev pub is_written_in_words : Verdict → Bool
is_written_in_words verdict.Same = false
is_written_in_words verdict.Differs = true
is_written_in_words verdict.Unanswered = true
is_written_in_words verdict.LeftOut = false
is_written_in_words verdict.New = true

-- In words a field is written where an output differs, is new or didn't come, and in the formats that programs read always.
abbrev pub is_written : ReportFormat → Verdict → Bool
is_written format.Text v = is_written_in_words v
is_written format.Whole v = is_written_in_words v
is_written format.Tap v = true
is_written format.Junit v = true
is_written format.Json v = true
is_written format.Accepting v = is_written_in_words v

-- What a fault leaves of the output: where there was no memory nothing was written, and else the writer failed.
abbrev pub Unreported : Option (List ℕ) → Option (List ℕ) → ReportFault → Type 0
Unreported a b fault.OutOfMemory = Appends a b []
Unreported a b fault.Output = Unit {0}
