-- Bytes written after bytes.
use Rattle.std.proofs.KnownBytes.{Appends-trans, Appends-nil}
use Rattle.std.proofs.Common.{◌≡◌, ℕ, Bool, true, false, cond, List, [], ◌∷◌, ◌++◌, map, flat_map, refl, ap, sym, ◌∙◌, subst, append-nil, Option, None, length, take, get_or, ◌<◌, ◌≤◌, ◌+◌}
use Rattle.std.proofs.lemmas.List.{take_more, take_all}
use Rattle.std.proofs.lemmas.Grind.{flat_map-append}
use Rattle.std.specs.Io.KnownBytes.{Appends}
use Rattle.block_tree.specs.Tree.{Items, Piece, text_piece, block_piece, items_from, put}
use Rattle.block_tree.specs.View.{piece_of, tree_of, piece_text, piece_block, tree_out}
use Rattle.block_tree.specs.declared.tree.Item.{Item}
use Rattle.block_tree.specs.declared.tree.Node.{Node, out-Node}
use Rattle.sheet_notebook.specs.Pictures.{is_output_tag, picture_of}
use Rattle.sheet_export.specs.Html.{block_start, block_end, framed_html, is_unmarked, items_html, block_html, marked_html, piece_html, shown_html}

pub ruleset steps = (Appends-trans, Appends-nil)

pub in_frame : (a b c d : Option (List ℕ)) (in_output channel : Bool) (name xs : List ℕ) → Appends a b (block_start in_output channel name) → Appends b c xs → Appends c d (block_end in_output channel name)
    → Appends a d (framed_html in_output channel name xs)
in_frame a b c d in_output channel name xs p q r =
    Appends-trans a b d (block_start in_output channel name) (xs ++ block_end in_output channel name) p (Appends-trans b c d xs (block_end in_output channel name) q r)

put_html : (in_output : Bool) (p : Piece) (rest : Items) → items_html in_output (put p rest) ≡ piece_html in_output p ++ items_html in_output rest
put_html in_output (text_piece t) rest = refl
put_html in_output (block_piece b) rest = refl

items_block_flat : (in_output : Bool) (xs : List Item) → items_html in_output (items_from (map piece_of xs)) ≡ flat_map (λ x. piece_html in_output (piece_of x)) xs
items_block_flat in_output [] = refl
items_block_flat in_output (x ∷ xs) = put_html in_output (piece_of x) (items_from (map piece_of xs)) ∙ ap (λ r. piece_html in_output (piece_of x) ++ r) (items_block_flat in_output xs)

-- whether a node is of the channel of answers
abbrev pub own_tag : Node → Bool
own_tag n = is_output_tag (out-Node n).tag.channel (out-Node n).tag.name

-- what the items of a node are written as, one after another
abbrev pub items_of_node : Node → List Item → List ℕ
items_of_node n xs = flat_map (λ x. piece_html (own_tag n) (piece_of x)) xs

-- a node that is no picture
pub block_html_out : (in_output : Bool) (n : Node) → picture_of (tree_of n) ≡ None
    → block_html in_output (tree_of n) ≡ marked_html in_output (out-Node n).tag.channel (out-Node n).tag.name (items_of_node n (out-Node n).items.items)
block_html_out in_output n none =
    let channel = (out-Node n).tag.channel in
    let name = (out-Node n).tag.name in
    ap (λ p. shown_html p in_output (tree_of n).channel (tree_of n).name (items_html (is_output_tag (tree_of n).channel (tree_of n).name) (tree_of n).items)) none
    ∙ ap (λ t. marked_html in_output t.channel t.name (items_html (is_output_tag t.channel t.name) t.items)) (tree_out n)
    ∙ ap (marked_html in_output channel name) (items_block_flat (is_output_tag channel name) (out-Node n).items.items)

pub ruleset block_steps = (Appends-trans, Appends-nil, in_frame, piece_text, piece_block)

pub next_item : {A : Type 0} (f : A → List ℕ) (xs : List A) (i : ℕ) (x : A) (ys : List ℕ) (a b c : Option (List ℕ)) → i < length xs → x ≡ get_or xs i x → f x ≡ ys
    → Appends a b (flat_map f (take i xs)) → Appends b c ys → Appends a c (flat_map f (take (i + 1) xs))
next_item f xs i x ys a b c h e is p q =
    let more : flat_map f (take (i + 1) xs) ≡ flat_map f (take i xs) ++ ys =
    ap (flat_map f) (take_more xs i x h ∙ ap (λ y. take i xs ++ y ∷ []) (sym e)) ∙ flat_map-append f (take i xs) (x ∷ []) ∙ ap (λ t. flat_map f (take i xs) ++ t) (append-nil (f x) ∙ is) in
    subst (Appends a c) (sym more) (Appends-trans a b c (flat_map f (take i xs)) ys p q)

pub all_items : {A : Type 0} (f : A → List ℕ) (xs ys : List A) (i : ℕ) → length xs ≤ i → xs ≡ ys → flat_map f (take i xs) ≡ flat_map f ys
all_items f xs ys i h e = ap (flat_map f) (take_all i xs h ∙ e)

pub framed_done : (in_output : Bool) (n : Node) (xs : List Item) (i : ℕ) (unmarked : Bool) (a b c d : Option (List ℕ)) → picture_of (tree_of n) ≡ None
    → unmarked ≡ is_unmarked in_output (out-Node n).tag.channel (out-Node n).tag.name → unmarked ≡ false → length xs ≤ i → xs ≡ (out-Node n).items.items
    → Appends a b (block_start in_output (out-Node n).tag.channel (out-Node n).tag.name) → Appends b c (items_of_node n (take i xs)) → Appends c d (block_end in_output (out-Node n).tag.channel (out-Node n).tag.name)
    → Appends a d (block_html in_output (tree_of n))
framed_done in_output n xs i unmarked a b c d none is shut h e p q r =
    let channel = (out-Node n).tag.channel in
    let name = (out-Node n).tag.name in
    let inside = items_of_node n (out-Node n).items.items in
    subst (Appends a d) (sym (block_html_out in_output n none ∙ ap (λ s. cond s inside (framed_html in_output channel name inside)) (sym is ∙ shut)))
    (in_frame a b c d in_output channel name _ p (subst (Appends b c) (all_items (λ x. piece_html (is_output_tag channel name) (piece_of x)) xs _ i h e) q) r)

pub bare_done : (in_output : Bool) (n : Node) (xs : List Item) (i : ℕ) (unmarked : Bool) (a c : Option (List ℕ)) → picture_of (tree_of n) ≡ None
    → unmarked ≡ is_unmarked in_output (out-Node n).tag.channel (out-Node n).tag.name → unmarked ≡ true → length xs ≤ i → xs ≡ (out-Node n).items.items
    → Appends a c (items_of_node n (take i xs)) → Appends a c (block_html in_output (tree_of n))
bare_done in_output n xs i unmarked a c none is whole h e q =
    let channel = (out-Node n).tag.channel in
    let name = (out-Node n).tag.name in
    let inside = items_of_node n (out-Node n).items.items in
    subst (Appends a c) (sym (block_html_out in_output n none ∙ ap (λ s. cond s inside (framed_html in_output channel name inside)) (sym is ∙ whole)))
    (subst (Appends a c) (all_items (λ x. piece_html (is_output_tag channel name) (piece_of x)) xs _ i h e) q)
