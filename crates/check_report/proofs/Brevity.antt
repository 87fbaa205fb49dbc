-- Outputs with pictures by their size, written item by item; and the last byte of a text.
use Rattle.std.proofs.KnownBytes.{Appends-trans, Appends-nil}
use Rattle.std.proofs.Common.{◌≡◌, ℕ, Bool, true, false, cond, List, [], ◌∷◌, ◌++◌, map, flat_map, refl, ap, sym, ◌∙◌, subst, append_assoc, append-nil, Option, Some, None, length, take, get_or, slice_get, ◌<◌, ◌≤◌, ◌+◌, ◌-◌, arith}
use Rattle.std.proofs.lemmas.List.{take_more, take_all}
use Rattle.std.proofs.lemmas.Grind.{flat_map-append}
use Rattle.std.specs.List.{last_or}
use Rattle.std.specs.Io.KnownBytes.{Appends}
use Rattle.block_tree.specs.Tree.{Items, Piece, text_piece, block_piece, items_from, put}
use Rattle.block_tree.specs.View.{piece_of, tree_of, piece_text, piece_block, tree_out}
use Rattle.block_tree.specs.declared.tree.Item.{Item}
use Rattle.block_tree.specs.declared.tree.Node.{Node, out-Node}
use Rattle.sheet_text.specs.Escape.{on_line}
use Rattle.sheet_text.specs.Blocks.{sign, framed, is_bare, shown}
use Rattle.sheet_notebook.specs.Pictures.{picture_of}
use Rattle.check_report.specs.Brief.{brief_block, brief_text, items_brief, piece_brief, size_and_sum}

pub ruleset steps = (Appends-trans, Appends-nil)

-- a tag, what stands in it, and the brace
pub in_frame : (a b c d : Option (List ℕ)) (channel : Bool) (name xs : List ℕ) → Appends a b (123 ∷ (on_line name ++ sign channel ∷ [])) → Appends b c xs → Appends c d (125 ∷ []) → Appends a d (framed channel name xs)
in_frame a b c d channel name xs p q r = subst (Appends a d) (ap (λ t. 123 ∷ t) (append_assoc (on_line name) (sign channel ∷ []) (xs ++ 125 ∷ [])))
    (Appends-trans a b d (123 ∷ (on_line name ++ sign channel ∷ [])) (xs ++ 125 ∷ []) p (Appends-trans b c d xs (125 ∷ []) q r))

pub ruleset tag_steps = (in_frame)

put_brief : (p : Piece) (rest : Items) → items_brief (put p rest) ≡ piece_brief p ++ items_brief rest
put_brief (text_piece t) rest = refl
put_brief (block_piece b) rest = refl

items_brief_flat : (xs : List Item) → items_brief (items_from (map piece_of xs)) ≡ flat_map (λ x. piece_brief (piece_of x)) xs
items_brief_flat [] = refl
items_brief_flat (x ∷ xs) = put_brief (piece_of x) (items_from (map piece_of xs)) ∙ ap (λ r. piece_brief (piece_of x) ++ r) (items_brief_flat xs)

-- what the items of a node are written as, one after another
abbrev pub items_of_node : List Item → List ℕ
items_of_node xs = flat_map (λ x. piece_brief (piece_of x)) xs

-- a node that is no picture
pub brief_text_out : (n : Node) → picture_of (tree_of n) ≡ None → brief_text (tree_of n) ≡ shown (out-Node n).tag.channel (out-Node n).tag.name (items_of_node (out-Node n).items.items)
brief_text_out n none =
    ap (λ p. brief_block p (tree_of n).channel (tree_of n).name (items_brief (tree_of n).items)) none
    ∙ ap (λ t. shown t.channel t.name (items_brief t.items)) (tree_out n)
    ∙ ap (shown (out-Node n).tag.channel (out-Node n).tag.name) (items_brief_flat (out-Node n).items.items)

-- one that is
pub picture_text_out : (n : Node) (given : List ℕ) → picture_of (tree_of n) ≡ Some given → brief_text (tree_of n) ≡ framed (out-Node n).tag.channel (out-Node n).tag.name (size_and_sum given)
picture_text_out n given some =
    ap (λ p. brief_block p (tree_of n).channel (tree_of n).name (items_brief (tree_of n).items)) some
    ∙ ap (λ t. framed t.channel t.name (size_and_sum given)) (tree_out n)

pub ruleset block_steps = (Appends-trans, Appends-nil, in_frame, piece_text, piece_block, picture_text_out)

pub next_item : {A : Type 0} (f : A → List ℕ) (xs : List A) (i : ℕ) (x : A) (ys : List ℕ) (a b c : Option (List ℕ)) → i < length xs → x ≡ get_or xs i x → f x ≡ ys
    → Appends a b (flat_map f (take i xs)) → Appends b c ys → Appends a c (flat_map f (take (i + 1) xs))
next_item f xs i x ys a b c h e is p q =
    let more : flat_map f (take (i + 1) xs) ≡ flat_map f (take i xs) ++ ys =
    ap (flat_map f) (take_more xs i x h ∙ ap (λ y. take i xs ++ y ∷ []) (sym e)) ∙ flat_map-append f (take i xs) (x ∷ []) ∙ ap (λ t. flat_map f (take i xs) ++ t) (append-nil (f x) ∙ is) in
    subst (Appends a c) (sym more) (Appends-trans a b c (flat_map f (take i xs)) ys p q)

all_items : {A : Type 0} (f : A → List ℕ) (xs ys : List A) (i : ℕ) → length xs ≤ i → xs ≡ ys → flat_map f (take i xs) ≡ flat_map f ys
all_items f xs ys i h e = ap (flat_map f) (take_all i xs h ∙ e)

pub framed_done : (n : Node) (xs : List Item) (i : ℕ) (bare : Bool) (a b c d : Option (List ℕ)) → picture_of (tree_of n) ≡ None → bare ≡ is_bare (out-Node n).tag.channel (out-Node n).tag.name → bare ≡ false → length xs ≤ i → xs ≡ (out-Node n).items.items
    → Appends a b (123 ∷ (on_line (out-Node n).tag.name ++ sign (out-Node n).tag.channel ∷ [])) → Appends b c (items_of_node (take i xs)) → Appends c d (125 ∷ []) → Appends a d (brief_text (tree_of n))
framed_done n xs i bare a b c d none is shut h e p q r =
    let inside = items_of_node (out-Node n).items.items in
    subst (Appends a d) (sym (brief_text_out n none ∙ ap (λ s. cond s inside (framed (out-Node n).tag.channel (out-Node n).tag.name inside)) (sym is ∙ shut)))
    (in_frame a b c d (out-Node n).tag.channel (out-Node n).tag.name _ p (subst (Appends b c) (all_items (λ x. piece_brief (piece_of x)) xs _ i h e) q) r)

pub bare_done : (n : Node) (xs : List Item) (i : ℕ) (bare : Bool) (a c : Option (List ℕ)) → picture_of (tree_of n) ≡ None → bare ≡ is_bare (out-Node n).tag.channel (out-Node n).tag.name → bare ≡ true → length xs ≤ i → xs ≡ (out-Node n).items.items
    → Appends a c (items_of_node (take i xs)) → Appends a c (brief_text (tree_of n))
bare_done n xs i bare a c none is whole h e q =
    let inside = items_of_node (out-Node n).items.items in
    subst (Appends a c) (sym (brief_text_out n none ∙ ap (λ s. cond s inside (framed (out-Node n).tag.channel (out-Node n).tag.name inside)) (sym is ∙ whole)))
    (subst (Appends a c) (all_items (λ x. piece_brief (piece_of x)) xs _ i h e) q)

last_there : (x : ℕ) (xs : List ℕ) (o : Option ℕ) (byte : ℕ) → slice_get (x ∷ xs) (length xs) ≡ Some byte → last_or o (x ∷ xs) ≡ Some byte
last_there x [] o byte h = h
last_there x (y ∷ ys) o byte h = last_there y ys (Some x) byte h

-- the last byte of a text, as a slice tells it
pub last_is : (text : List ℕ) (byte : ℕ) → slice_get text (length text - 1) ≡ Some byte → last_or None text ≡ Some byte
last_is [] byte h = cc
last_is (x ∷ xs) byte h = let e : length (x ∷ xs) - 1 ≡ length xs = omega arith in last_there x xs None byte (rw e at h)

none_there : (x : ℕ) (xs : List ℕ) (a b : Option ℕ) → slice_get (x ∷ xs) (length xs) ≡ None → a ≡ b
none_there x [] a b h = cc
none_there x (y ∷ ys) a b h = none_there y ys a b h

pub no_last : (text : List ℕ) → slice_get text (length text - 1) ≡ None → last_or None text ≡ None
no_last [] h = refl
no_last (x ∷ xs) h = let e : length (x ∷ xs) - 1 ≡ length xs = omega arith in none_there x xs _ _ (rw e at h)

pub ruleset end_steps = (last_is, no_last)
