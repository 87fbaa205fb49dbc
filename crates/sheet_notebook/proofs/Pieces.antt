-- The items of an output, one by one.
use Rattle.std.proofs.Common.{◌≡◌, ℕ, Bool, List, refl, None}
use Rattle.block_tree.specs.Tree.{Items, Piece, text_piece, block_piece, put, text, block}
use Rattle.block_tree.specs.View.{tree_out, piece_text, piece_block}
use Rattle.sheet_notebook.specs.Formulas.{formula_in, formula_last}
use Rattle.sheet_notebook.specs.Pictures.{only_text}

pub two_texts : (t : List ℕ) (p : Piece) (rest : Items) → formula_in (text t (put p rest)) ≡ None
two_texts t (text_piece u) rest = refl
two_texts t (block_piece b) rest = refl

pub two_blocks : (channel : Bool) (name : List ℕ) (inside : Items) (p : Piece) (rest : Items) → formula_last (block channel name inside (put p rest)) ≡ None
two_blocks channel name inside (text_piece u) rest = refl
two_blocks channel name inside (block_piece b) rest = refl

pub text_and_more : (t : List ℕ) (p : Piece) (rest : Items) → only_text (text t (put p rest)) ≡ None
text_and_more t (text_piece u) rest = refl
text_and_more t (block_piece b) rest = refl

pub ruleset item_rules = (two_texts, two_blocks, text_and_more, tree_out, piece_text, piece_block)
