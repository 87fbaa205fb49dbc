use Rattle.std.proofs.Common.{◌≡◌, length}
use Rattle.scheme_text.specs.inside.Scan.{add_before, read_from, outside}
use Rattle.scheme_text.proofs.strings.read_tuple.Given as goal

abbrev pub invariant-loop-byte : goal.invariant-loop-byte
invariant-loop-byte l = add_before l.strings.items (read_from outside l.rest) ≡ read_from outside l.bytes

abbrev pub decreases-loop-byte : goal.decreases-loop-byte
decreases-loop-byte l = length l.rest
