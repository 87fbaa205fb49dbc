-- A report as lines of JSON. (docs/use/JSON.md.)
use Rattle.std.specs.Prelude.{ℕ, List, ◌++◌, Option}
use Rattle.block_tree.specs.declared.reason.Reason.{Reason}
use Rattle.worksheet.specs.declared.field.Answer.{Answer}
use Rattle.worksheet.specs.declared.field.Field.{Field}
use Rattle.sheet_text.specs.InputLines.{unfolded}
use Rattle.sheet_json.specs.Sheets.{telling_line}
use Rattle.sheet_json.specs.Tellings.{CheckReported, Telling}
use Rattle.sheet_json.specs.Tellings as reported
use Rattle.sheet_json.specs.declared.checks.Took.{Took}
use Rattle.check_report.specs.declared.verdict.VerdictCounts.{VerdictCounts}
use Rattle.check_report.specs.declared.verdict.Verdict.{Verdict}
use Rattle.check_report.specs.declared.verdict.Verdict.TheVariants as verdict

-- What a field came to, by the answer that came, and the reason that the field then shows for none. Its input has a line feed for each
-- U+2028.
abbrev pub check_reported : Field → Option Answer → Option Reason → Verdict → CheckReported
check_reported field came lost verdict.Same = reported.same
check_reported field came lost verdict.Differs = reported.differs (unfolded field.input) field.answer came
check_reported field came lost verdict.Unanswered = reported.unanswered (unfolded field.input) field.answer lost
check_reported field came lost verdict.LeftOut = reported.left_out
check_reported field came lost verdict.New = reported.new (unfolded field.input) came

abbrev pub checked_reported : Field → Option Answer → Option Reason → Verdict → Option Took → Telling
checked_reported field came lost v took = reported.checked field.id field.session took (check_reported field came lost v)

abbrev pub counts_reported : VerdictCounts → Telling
counts_reported counts = reported.compared counts.same counts.differ counts.unanswered counts.left_out counts.errors counts.new

-- what stands first
abbrev pub json_head : List ℕ
json_head = telling_line reported.hello

-- what stands last: the counts, and that the check came to its end
abbrev pub json_tail : VerdictCounts → List ℕ
json_tail counts = telling_line (counts_reported counts) ++ telling_line reported.end
