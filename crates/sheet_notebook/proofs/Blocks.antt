-- Blocks added after bytes of a text.
use Rattle.std.proofs.Common.{◌≡◌, ℕ, Bool, true, false, cond, List, [], ◌∷◌, ◌++◌, map, flat_map, refl, ap, sym, ◌∙◌, subst, append_assoc, append-nil, length, take, get_or, ◌<◌, ◌≤◌, ◌+◌}
use Rattle.std.proofs.lemmas.List.{take_more, take_all}
use Rattle.std.proofs.lemmas.Grind.{flat_map-append}
use Rattle.block_tree.specs.Tree.{Items, Piece, text_piece, block_piece, items_from, put}
use Rattle.block_tree.specs.View.{piece_of, tree_of, piece_text, piece_block, tree_out}
use Rattle.block_tree.specs.declared.tree.Item.{Item}
use Rattle.block_tree.specs.declared.tree.Node.{Node, out-Node}
use Rattle.sheet_text.specs.Blocks.{sign, is_bare}
use Rattle.sheet_notebook.specs.Strings.{string_of, framed_string, shown_string, items_string, block_string, piece_string}
use Rattle.sheet_notebook.specs.inside.Adds.{Adds}
use Rattle.sheet_notebook.proofs.Adding.{adds_trans, adds_nil}

pub in_frame : (a b c d : List ℕ) (channel : Bool) (name xs : List ℕ) → Adds a b (123 ∷ (string_of false name ++ sign channel ∷ [])) → Adds b c xs → Adds c d (125 ∷ []) → Adds a d (framed_string channel name xs)
in_frame a b c d channel name xs p q r = subst (Adds a d) (ap (λ t. 123 ∷ t) (append_assoc (string_of false name) (sign channel ∷ []) (xs ++ 125 ∷ [])))
    (adds_trans a b d (123 ∷ (string_of false name ++ sign channel ∷ [])) (xs ++ 125 ∷ []) p (adds_trans b c d xs (125 ∷ []) q r))

put_string : (p : Piece) (rest : Items) → items_string (put p rest) ≡ piece_string p ++ items_string rest
put_string (text_piece t) rest = refl
put_string (block_piece b) rest = refl

items_flat : (xs : List Item) → items_string (items_from (map piece_of xs)) ≡ flat_map (λ x. piece_string (piece_of x)) xs
items_flat [] = refl
items_flat (x ∷ xs) = put_string (piece_of x) (items_from (map piece_of xs)) ∙ ap (λ r. piece_string (piece_of x) ++ r) (items_flat xs)

pub block_string_out : (n : Node) → block_string (tree_of n) ≡ shown_string (out-Node n).tag.channel (out-Node n).tag.name (flat_map (λ x. piece_string (piece_of x)) (out-Node n).items.items)
block_string_out n = ap block_string (tree_out n) ∙ ap (shown_string (out-Node n).tag.channel (out-Node n).tag.name) (items_flat (out-Node n).items.items)

pub ruleset block_steps = (adds_trans, adds_nil, in_frame, block_string_out, piece_text, piece_block)

pub next_item : {A : Type 0} (f : A → List ℕ) (xs : List A) (i : ℕ) (x : A) (ys : List ℕ) (a b c : List ℕ) → i < length xs → x ≡ get_or xs i x → f x ≡ ys
    → Adds a b (flat_map f (take i xs)) → Adds b c ys → Adds a c (flat_map f (take (i + 1) xs))
next_item f xs i x ys a b c h e is p q =
    let more : flat_map f (take (i + 1) xs) ≡ flat_map f (take i xs) ++ ys =
    ap (flat_map f) (take_more xs i x h ∙ ap (λ y. take i xs ++ y ∷ []) (sym e)) ∙ flat_map-append f (take i xs) (x ∷ []) ∙ ap (λ t. flat_map f (take i xs) ++ t) (append-nil (f x) ∙ is) in
    subst (Adds a c) (sym more) (adds_trans a b c (flat_map f (take i xs)) ys p q)

pub all_items : {A : Type 0} (f : A → List ℕ) (xs ys : List A) (i : ℕ) → length xs ≤ i → xs ≡ ys → flat_map f (take i xs) ≡ flat_map f ys
all_items f xs ys i h e = ap (flat_map f) (take_all i xs h ∙ e)

pub framed_done : (n : Node) (xs : List Item) (i : ℕ) (bare : Bool) (a b c d : List ℕ) → bare ≡ is_bare (out-Node n).tag.channel (out-Node n).tag.name → bare ≡ false → length xs ≤ i → xs ≡ (out-Node n).items.items
    → Adds a b (123 ∷ (string_of false (out-Node n).tag.name ++ sign (out-Node n).tag.channel ∷ [])) → Adds b c (flat_map (λ x. piece_string (piece_of x)) (take i xs)) → Adds c d (125 ∷ []) → Adds a d (block_string (tree_of n))
framed_done n xs i bare a b c d is shut h e p q r =
    subst (Adds a d) (sym (block_string_out n ∙ ap (λ s. cond s (flat_map (λ x. piece_string (piece_of x)) (out-Node n).items.items) (framed_string (out-Node n).tag.channel (out-Node n).tag.name (flat_map (λ x. piece_string (piece_of x)) (out-Node n).items.items))) (sym is ∙ shut)))
    (in_frame a b c d (out-Node n).tag.channel (out-Node n).tag.name _ p (subst (Adds b c) (all_items (λ x. piece_string (piece_of x)) xs _ i h e) q) r)

pub bare_done : (n : Node) (xs : List Item) (i : ℕ) (bare : Bool) (a c : List ℕ) → bare ≡ is_bare (out-Node n).tag.channel (out-Node n).tag.name → bare ≡ true → length xs ≤ i → xs ≡ (out-Node n).items.items
    → Adds a c (flat_map (λ x. piece_string (piece_of x)) (take i xs)) → Adds a c (block_string (tree_of n))
bare_done n xs i bare a c is whole h e q =
    subst (Adds a c) (sym (block_string_out n ∙ ap (λ s. cond s (flat_map (λ x. piece_string (piece_of x)) (out-Node n).items.items) (framed_string (out-Node n).tag.channel (out-Node n).tag.name (flat_map (λ x. piece_string (piece_of x)) (out-Node n).items.items))) (sym is ∙ whole)))
    (subst (Adds a c) (all_items (λ x. piece_string (piece_of x)) xs _ i h e) q)

pub inside_done : (n : Node) (xs : List Item) (i : ℕ) (a c : List ℕ) → length xs ≤ i → xs ≡ (out-Node n).items.items
    → Adds a c (flat_map (λ x. piece_string (piece_of x)) (take i xs)) → Adds a c (items_string (tree_of n).items)
inside_done n xs i a c h e q =
    subst (Adds a c) (sym (ap (λ t. items_string t.items) (tree_out n) ∙ items_flat (out-Node n).items.items)) (subst (Adds a c) (all_items (λ x. piece_string (piece_of x)) xs _ i h e) q)
