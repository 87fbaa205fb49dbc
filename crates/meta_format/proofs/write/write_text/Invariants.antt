use Rattle.std.proofs.Common.{◌≡◌, ◌++◌, drop, take, length}
use Rattle.std.specs.List.{flat_map}
use Rattle.meta_format.specs.Canonical.{escape}
use Rattle.meta_format.proofs.write.write_text.Given as goal

abbrev pub invariant-loop-c : goal.invariant-loop-c
invariant-loop-c l = record {
  rest : l.out.items ++ flat_map escape (drop l.c-index l.text) ≡ l.initial.out.items ++ flat_map escape l.text;
  kept : take (length l.initial.out.items) l.out.items ≡ l.initial.out.items;
}
