use Rattle.std.proofs.Common.{◌-◌, List, length}
use Rattle.std.specs.Io.KnownBytes.{Appends, append_known}
use Rattle.meta_format.specs.Limits.{limits}
use Rattle.meta_format.specs.Stream.{Outer}
use Rattle.meta_format.specs.Ahead.{IsReadTo}
use Rattle.program_endings.specs.Printed.{outer_lines}
use Rattle.program_endings.proofs.block_lines.write_stream.Given as goal

abbrev pub invariant-loop-start : goal.invariant-loop-start
invariant-loop-start g l = (blocks : List Outer) × IsReadTo limits l.stream l.from blocks × Appends (g.W.Write.contents l.initial.out) (append_known (g.W.Write.contents l.out) l.room) (outer_lines blocks)

abbrev pub decreases-loop-start : goal.decreases-loop-start
decreases-loop-start g l = length l.stream - l.from
