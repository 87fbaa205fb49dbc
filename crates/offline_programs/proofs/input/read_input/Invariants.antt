use Rattle.std.proofs.Common.{◌≤◌, length}
use Rattle.std.specs.Io.KnownBytes.{Consumes}
use Rattle.offline_programs.specs.Input.{longest_standard_input}
use Rattle.offline_programs.proofs.input.read_input.Given as goal

abbrev pub invariant-loop : goal.invariant-loop
invariant-loop g l = record {
  taken : Consumes (g.R.Read.remaining l.initial.reader) (g.R.Read.remaining l.reader) l.input.items;
  many : l.counter ≤ length l.input.items;
  few : length l.input.items ≤ longest_standard_input;
}
