-- What is said of what closed, and of an end.
use Rattle.std.specs.Prelude.{ℕ, List, Option, Some, None}
use Rattle.std.specs.Result.{result_ok}
use Rattle.worksheet.specs.Checks.{field_in}
use Rattle.worksheet.specs.Contents.{Contents}
use Rattle.worksheet.specs.declared.field.Answer.{Answer}
use Rattle.worksheet.specs.declared.field.Field.{Field}
use Rattle.plugin_core.specs.declared.step.Ended.{Ended}
use Rattle.host_events.specs.declared.reply.Closed.{Closed}
use Rattle.host_events.specs.declared.reply.Closed.TheVariants as closed
use Rattle.sheet_json.specs.Tellings.{EventReported}
use Rattle.sheet_json.specs.Tellings as reported

-- the answer that a field shows, and the prompt of the line that would be asked next
abbrev pub answer_event : Option (List ℕ) → ℕ → Option Answer → Option EventReported
answer_event next id None = None
answer_event next id (Some answer) = Some (reported.answer id answer.prompt answer.output next)

abbrev pub answer_shown : Option (List ℕ) → ℕ → Option Field → Option EventReported
answer_shown next id None = None
answer_shown next id (Some field) = answer_event next id field.answer

-- what closed, where this is the worksheet after it, and the prompt of the line that would be asked next
abbrev pub closed_event : Contents → Option (List ℕ) → Closed → Option EventReported
closed_event sheet next (closed.Banner output) = Some (reported.banner output next)
closed_event sheet next (closed.Line id) = answer_shown next id (field_in sheet.fields id)
closed_event sheet next (closed.Complete id given) = Some (reported.completed id (result_ok given))

abbrev pub ended_event : Ended → EventReported
ended_event ended = reported.ended ended.reason ended.lost
