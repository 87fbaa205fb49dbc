use Rattle.std.proofs.Common.{◌≡◌, ◌++◌, ◌+◌, ◌≤◌, length, vec_capacity, vec_len}
use Rattle.std.specs.List.{flat_map}
use Rattle.meta_format.specs.Canonical.{escape}
use Rattle.recovery.proofs.writing.put_text.Given as goal

abbrev pub invariant-loop-rest : goal.invariant-loop-rest
invariant-loop-rest l = record {
  code : l.out.items ++ flat_map escape l.rest ≡ l.initial.out.items ++ flat_map escape l.text;
  size : vec_len l.out + length (flat_map escape l.rest) ≡ vec_len l.initial.out + length (flat_map escape l.text);
  capacity : vec_capacity l.initial.out ≤ vec_capacity l.out;
}

abbrev pub decreases-loop-rest : goal.decreases-loop-rest
decreases-loop-rest l = length l.rest
