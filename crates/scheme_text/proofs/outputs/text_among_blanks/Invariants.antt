use Rattle.std.proofs.Common.{◌≡◌, map, drop}
use Rattle.block_tree.specs.Tree.{items_from}
use Rattle.block_tree.specs.View.{piece_of}
use Rattle.scheme_text.specs.Outputs.{text_among_blanks}
use Rattle.scheme_text.specs.inside.Found.{text_after, found_items}
use Rattle.scheme_text.proofs.outputs.text_among_blanks.Given as goal

abbrev pub invariant-loop-item : goal.invariant-loop-item
invariant-loop-item l = text_after (found_items l.found) (items_from (map piece_of (drop l.item-index l.items))) ≡ text_among_blanks (items_from (map piece_of l.items))
