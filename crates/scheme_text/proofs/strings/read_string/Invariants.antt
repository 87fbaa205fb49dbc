use Rattle.std.proofs.Common.{◌≡◌, ◌≤◌, length}
use Rattle.scheme_text.specs.inside.Scan.{in_front, read_from, inside}
use Rattle.scheme_text.proofs.strings.read_string.Given as goal

abbrev pub invariant-loop-byte : goal.invariant-loop-byte
invariant-loop-byte l = (in_front l.text.items (read_from inside l.rest) ≡ read_from inside l.bytes) × (length l.rest ≤ length l.bytes)

abbrev pub decreases-loop-byte : goal.decreases-loop-byte
decreases-loop-byte l = length l.rest
