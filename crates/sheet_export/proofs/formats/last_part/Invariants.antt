use Rattle.std.proofs.Common.{◌≡◌, length}
use Rattle.sheet_export.specs.Formats.{after_slash}
use Rattle.sheet_export.proofs.formats.last_part.Given as goal

abbrev pub invariant-loop-byte : goal.invariant-loop-byte
invariant-loop-byte l = after_slash l.part l.rest ≡ after_slash l.path l.path

abbrev pub decreases-loop-byte : goal.decreases-loop-byte
decreases-loop-byte l = length l.rest
