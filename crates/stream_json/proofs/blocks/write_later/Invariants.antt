use Rattle.std.proofs.Common.{◌-◌, List, length}
use Rattle.std.specs.Io.KnownBytes.{Appends}
use Rattle.meta_format.specs.Limits.{limits}
use Rattle.meta_format.specs.Stream.{Outer}
use Rattle.meta_format.specs.Ahead.{IsReadTo}
use Rattle.stream_json.proofs.Written.{outers_text}
use Rattle.stream_json.proofs.blocks.write_later.Given as goal

abbrev pub invariant-loop-start : goal.invariant-loop-start
invariant-loop-start g l = (blocks : List Outer) × IsReadTo limits l.stream l.from blocks × Appends (g.W.Write.contents l.initial.out) (g.W.Write.contents l.out) (outers_text blocks)

abbrev pub decreases-loop-start : goal.decreases-loop-start
decreases-loop-start g l = length l.stream - l.from
