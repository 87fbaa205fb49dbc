use Rattle.std.proofs.Common.{take, flat_map, string_bytes}
use Rattle.block_tree.specs.View.{piece_of}
use Rattle.sheet_notebook.specs.Strings.{piece_string}
use Rattle.sheet_notebook.specs.inside.Adds.{Adds}
use Rattle.sheet_notebook.proofs.strings.push_inside.Given as goal

abbrev pub invariant-loop-item : goal.invariant-loop-item
invariant-loop-item l = Adds (string_bytes l.initial.text) (string_bytes l.text) (flat_map (λ x. piece_string (piece_of x)) (take l.item-index l.item-items))
