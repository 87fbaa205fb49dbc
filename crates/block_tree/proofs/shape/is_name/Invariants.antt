use Rattle.std.proofs.Common.{◌≡◌, drop}
use Rattle.std.specs.List.{list_all}
use Rattle.block_tree.specs.Shape.{is_tag_byte}
use Rattle.block_tree.proofs.shape.is_name.Given as goal

abbrev pub invariant-loop-c : goal.invariant-loop-c
invariant-loop-c l = list_all is_tag_byte (drop l.c-index l.name) ≡ list_all is_tag_byte l.name
