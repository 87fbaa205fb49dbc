use Rattle.std.proofs.Common.{◌≤◌, ◌-◌, take, length, flat_map}
use Rattle.std.specs.Io.KnownBytes.{Appends}
use Rattle.sheet_text.specs.Escape.{printed_byte}
use Rattle.sheet_text.proofs.escape.write_bytes.Given as goal

abbrev pub invariant-loop-start : goal.invariant-loop-start
invariant-loop-start g l = (l.start ≤ length l.bytes) × Appends (g.W.Write.contents l.initial.out) (g.W.Write.contents l.out) (flat_map (printed_byte l.keeps_lines) (take l.start l.bytes))

abbrev pub decreases-loop-start : goal.decreases-loop-start
decreases-loop-start g l = length l.bytes - l.start
