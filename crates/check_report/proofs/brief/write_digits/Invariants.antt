use Rattle.std.proofs.Common.{take, flat_map}
use Rattle.std.specs.Io.KnownBytes.{Appends}
use Rattle.check_report.specs.Brief.{two_digits}
use Rattle.check_report.proofs.brief.write_digits.Given as goal

abbrev pub invariant-loop-byte : goal.invariant-loop-byte
invariant-loop-byte g l = Appends (g.W.Write.contents l.initial.out) (g.W.Write.contents l.out) (flat_map two_digits (take l.byte-index l.bytes))
