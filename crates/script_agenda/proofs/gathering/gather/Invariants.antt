use Rattle.std.proofs.Common.{◌≡◌, ◌≤◌, ◌+◌, length}
use Rattle.script_agenda.specs.Gathering.{Gathers, most_commands}
use Rattle.script_agenda.proofs.gathering.gather.Given as goal

abbrev pub invariant-loop-alloc : goal.invariant-loop-alloc
invariant-loop-alloc l = record {
  gathers : Gathers l.fn.strict l.fn.lines l.lines l.edits;
  count : l.number + length l.lines ≡ l.fn.number + length l.fn.lines;
  few : length l.edits ≤ most_commands;
}

abbrev pub decreases-loop-alloc : goal.decreases-loop-alloc
decreases-loop-alloc l = length l.lines
