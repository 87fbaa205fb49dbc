use Rattle.std.proofs.Common.{◌≡◌, ◌+◌}
use Rattle.tellings.proofs.Voices.{OutcomesWritten}
use Rattle.field_agenda.specs.FieldLines.{by_field_lines}
use Rattle.field_agenda.proofs.field_lines.tell_each.Given as goal

abbrev pub invariant-loop-outcome : goal.invariant-loop-outcome
invariant-loop-outcome g l =
    (l.field ≡ l.initial.first + l.outcome-index)
    × OutcomesWritten (by_field_lines g.T.Tells.voice) l.sheet.contents l.initial.first l.outcomes l.outcome-index (g.W.Write.contents l.initial.writer) (g.W.Write.contents l.writer)
