use Rattle.std.proofs.Common.{◌≡◌, ◌+◌}
use Rattle.worksheet.specs.Contents.{Contents}
use Rattle.tellings.specs.Json.{in_json}
use Rattle.tellings.proofs.Voices.{OutcomesWritten}
use Rattle.tellings.proofs.in_json.write_outcomes.Given as goal

abbrev pub invariant-loop-outcome : goal.invariant-loop-outcome
invariant-loop-outcome g l =
    (l.line ≡ l.initial.first + l.outcome-index)
    × ((sheet : Contents) → OutcomesWritten in_json sheet l.initial.first l.outcomes l.outcome-index (g.W.Write.contents l.initial.writer) (g.W.Write.contents l.writer))
