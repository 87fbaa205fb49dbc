-- A report in JUnit's XML: fixed parts, with texts between them.
use Rattle.std.specs.Prelude.{ℕ, ◌/◌, ◌%◌, List, [], ◌++◌, Option, Some, None, codes}
use Rattle.std.specs.Fmt.{decimal}
use Rattle.std.specs.List.{flat_map}
use Rattle.check_report.specs.declared.verdict.Verdict.{Verdict}
use Rattle.check_report.specs.declared.verdict.Verdict.TheVariants as verdict
use Rattle.check_report.specs.Points.{Point}
use Rattle.sheet_json.specs.declared.checks.Took.{Took}
use Rattle.check_report.specs.Xml.{xml_text}

-- in front of the first case
abbrev pub head : List ℕ
head = codes "<?xml version=\"1.0\" encoding=\"UTF-8\"?>\n<testsuites>\n<testsuite name=\"tmhost check\">\n"

-- after the last one
abbrev pub tail : List ℕ
tail = codes "</testsuite>\n</testsuites>\n"

-- the name of a case: the number of its field, and its input
abbrev pub case_title : ℕ → List ℕ → List ℕ
case_title id input = codes "field " ++ decimal id ++ codes ": " ++ xml_text input

-- so many milliseconds as seconds, with three digits after the point
abbrev pub seconds_text : ℕ → List ℕ
seconds_text millis = decimal (millis / 1000) ++ codes "." ++ decimal (millis / 100 % 10) ++ decimal (millis / 10 % 10) ++ decimal (millis % 10)

-- the seconds that a case took, where they are known
abbrev pub time_part : Option Took → List ℕ
time_part None = []
time_part (Some took) = codes " time=\"" ++ seconds_text took.millis ++ codes "\""

-- the name of a case's session, and its own
abbrev pub case_names : ℕ → List ℕ → List ℕ → List ℕ
case_names id session input = codes "<testcase classname=\"" ++ xml_text session ++ codes "\" name=\"" ++ case_title id input ++ codes "\""

-- what begins a case: its names, and what it took
abbrev pub case_start : ℕ → List ℕ → List ℕ → Option Took → List ℕ
case_start id session input took = case_names id session input ++ time_part took ++ codes ">"

-- in front of what is reported of a case
abbrev pub result_start : Verdict → List ℕ
result_start verdict.Same = []
result_start verdict.Differs = codes "<failure message=\"differs\">"
result_start verdict.Unanswered = codes "<error message=\"unanswered\">"
result_start verdict.LeftOut = codes "<skipped message=\"left out\">"
result_start verdict.New = codes "<skipped message=\"new\">"

-- after it
abbrev pub result_end : Verdict → List ℕ
result_end verdict.Same = codes "</testcase>\n"
result_end verdict.Differs = codes "</failure></testcase>\n"
result_end verdict.Unanswered = codes "</error></testcase>\n"
result_end verdict.LeftOut = codes "</skipped></testcase>\n"
result_end verdict.New = codes "</skipped></testcase>\n"

-- a case
abbrev pub junit_case : Point → List ℕ
junit_case p = case_start p.id p.session p.input p.took ++ result_start p.verdict ++ xml_text p.reported ++ result_end p.verdict

-- a whole report
abbrev pub junit_text : List Point → List ℕ
junit_text points = head ++ flat_map junit_case points ++ tail
