-- When rows of items are the same.
use Rattle.std.proofs.lemmas.List.{length-map}
use Rattle.std.proofs.Common.{◌≡◌, suc, false, ◌&&◌, length, List, [], ◌∷◌, map, refl, ap, sym, ◌∙◌}
use Rattle.std.proofs.lemmas.Bool.{and_right}
use Rattle.block_tree.specs.Tree.{Items, Piece, text_piece, block_piece, items_from, put}
use Rattle.block_tree.specs.Same.{same_items, same_piece}
use Rattle.block_tree.specs.View.{piece_of, tree_out}
use Rattle.block_tree.specs.declared.tree.Item.{Item}

pub put_same : (p q : Piece) (a b : Items) → same_items (put p a) (put q b) ≡ (same_piece p q && same_items a b)
put_same (text_piece s) (text_piece t) a b = refl
put_same (text_piece s) (block_piece y) a b = refl
put_same (block_piece x) (text_piece t) a b = refl
put_same (block_piece x) (block_piece y) a b = refl

pub items_apart : (ps qs : List Piece) → (length ps ≡ length qs → ⊥) → false ≡ same_items (items_from ps) (items_from qs)
items_apart [] [] h = absurd (h refl)
items_apart [] (text_piece t ∷ qs) h = refl
items_apart [] (block_piece t ∷ qs) h = refl
items_apart (text_piece t ∷ ps) [] h = refl
items_apart (block_piece t ∷ ps) [] h = refl
items_apart (p ∷ ps) (q ∷ qs) h = sym (put_same p q (items_from ps) (items_from qs) ∙ and_right (same_piece p q) (same_items (items_from ps) (items_from qs)) (sym (items_apart ps qs (λ e. h (ap suc e)))))

pub pieces_apart : (xs ys : List Item) → (length xs ≡ length ys → ⊥) → false ≡ same_items (items_from (map piece_of xs)) (items_from (map piece_of ys))
pieces_apart xs ys h = items_apart (map piece_of xs) (map piece_of ys) (λ e. h (sym (length-map xs piece_of) ∙ e ∙ length-map ys piece_of))

pub ruleset same_rules = (tree_out, put_same, pieces_apart, and_right)
