use Rattle.std.proofs.Common.{◌≡◌, take}
use Rattle.sheet_export.specs.inside.Scan.{with_bytes}
use Rattle.sheet_export.proofs.fences.with_text.Given as goal

abbrev pub invariant-loop-byte : goal.invariant-loop-byte
invariant-loop-byte l = l.fence ≡ with_bytes l.initial.fence (take l.byte-index l.bytes)
