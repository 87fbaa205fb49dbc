use Rattle.std.proofs.Common.{take, flat_map}
use Rattle.std.specs.Io.KnownBytes.{Appends}
use Rattle.sheet_text.specs.Escape.{byte_in_quotes}
use Rattle.sheet_text.proofs.escape.write_in_quotes.Given as goal

abbrev pub invariant-loop-byte : goal.invariant-loop-byte
invariant-loop-byte g l = Appends (g.W.Write.contents l.initial.out) (g.W.Write.contents l.out) (flat_map byte_in_quotes (take l.byte-index l.bytes))
