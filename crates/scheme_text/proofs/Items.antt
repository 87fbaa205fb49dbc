-- The items of an output, one by one.
use Rattle.std.proofs.Common.{◌≡◌, ℕ, List, refl, None}
use Rattle.block_tree.specs.Tree.{Items, Piece, text_piece, block_piece, put, text}
use Rattle.block_tree.specs.View.{tree_out, piece_text, piece_block}
use Rattle.scheme_text.specs.Outputs.{lone_text}

pub two_texts : (t : List ℕ) (p : Piece) (rest : Items) → lone_text (text t (put p rest)) ≡ None
two_texts t (text_piece u) rest = refl
two_texts t (block_piece b) rest = refl

pub ruleset item_rules = (two_texts, tree_out, piece_text, piece_block)

pub ruleset found_rules = (tree_out, piece_text, piece_block)
