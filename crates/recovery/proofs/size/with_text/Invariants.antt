use Rattle.std.proofs.Common.{◌≡◌, ◌+◌, ◌≤◌, min, length}
use Rattle.std.specs.List.{flat_map}
use Rattle.meta_format.specs.Canonical.{escape}
use Rattle.recovery.specs.Code.{longest_reported}
use Rattle.recovery.proofs.size.with_text.Given as goal

abbrev pub invariant-loop-rest : goal.invariant-loop-rest
invariant-loop-rest l = record {
  capped : l.len ≤ longest_reported;
  rest : min (l.len + length (flat_map escape l.rest)) longest_reported ≡ min (l.before + length (flat_map escape l.text)) longest_reported;
}

abbrev pub decreases-loop-rest : goal.decreases-loop-rest
decreases-loop-rest l = length l.rest
