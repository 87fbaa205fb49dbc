use Rattle.std.proofs.Common.{◌≡◌, ◌≤◌, length}
use Rattle.live.specs.Gathering.{Gathered}
use Rattle.line_agenda.proofs.gathering.gather.Given as goal

abbrev pub invariant-loop : goal.invariant-loop
invariant-loop g l = record {
  gathered : Gathered l.initial.lines.held l.lines.held l.events.items;
  few : length l.events.items ≤ l.counter;
  reader : l.lines.reader ≡ l.initial.lines.reader;
}
