use Rattle.std.proofs.Common.{◌≡◌, length}
use Rattle.scheme_text.specs.inside.Scan.{without_white}
use Rattle.scheme_text.proofs.strings.without_white.Given as goal

abbrev pub invariant-loop-byte : goal.invariant-loop-byte
invariant-loop-byte l = without_white l.rest ≡ without_white l.bytes

abbrev pub decreases-loop-byte : goal.decreases-loop-byte
decreases-loop-byte l = length l.rest
