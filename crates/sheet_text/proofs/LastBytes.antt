-- The last byte of printed text.
use Rattle.std.proofs.Common.{◌≡◌, ◌≤◌, ◌<◌, ◌+◌, ◌-◌, ℕ, Bool, true, false, cond, List, [], ◌∷◌, ◌++◌, flat_map, refl, ap, sym, ◌∙◌, append-nil, Option, Some, None, length, take, get_or, slice_get, arith}
use Rattle.std.specs.List.{last_or}
use Rattle.std.proofs.lemmas.List.{take_more, take_all}
use Rattle.std.proofs.lemmas.Grind.{flat_map-append}
use Rattle.block_tree.specs.View.{piece_of, tree_of}
use Rattle.block_tree.specs.declared.tree.Item.{Item}
use Rattle.block_tree.specs.declared.tree.Node.{Node, out-Node}
use Rattle.sheet_text.specs.Escape.{on_line, on_lines, printed_byte}
use Rattle.sheet_text.specs.Blocks.{sign, framed, is_bare, block_text, piece_block_text}
use Rattle.sheet_text.proofs.Appending.{block_text_out}

pub last_or-append : {A : Type 0} (o : Option A) (xs ys : List A) → last_or o (xs ++ ys) ≡ last_or (last_or o xs) ys
last_or-append o [] ys = refl
last_or-append o (x ∷ xs) ys = last_or-append (Some x) xs ys

pub last_framed : (o : Option ℕ) (channel : Bool) (name inside : List ℕ) → last_or o (framed channel name inside) ≡ Some 125
last_framed o channel name inside =
    last_or-append (Some 123) (on_line name) (sign channel ∷ (inside ++ 125 ∷ []))
    ∙ last_or-append (Some (sign channel)) inside (125 ∷ [])

last_at_ends : (x : ℕ) (xs : List ℕ) (o : Option ℕ) (byte last : ℕ) → slice_get (x ∷ xs) (length xs) ≡ Some byte → ((before : Option ℕ) → last_or before (printed_byte true byte) ≡ Some last) → last_or o (on_lines (x ∷ xs)) ≡ Some last
last_at_ends x [] o byte last h is = let e : x ≡ byte = cc in ap (last_or o) (append-nil (printed_byte true x) ∙ ap (printed_byte true) e) ∙ is o
last_at_ends x (y ∷ ys) o byte last h is = last_or-append o (printed_byte true x) (on_lines (y ∷ ys)) ∙ last_at_ends y ys (last_or o (printed_byte true x)) byte last h is

-- the last of some bytes decides
pub last_byte_ends : (bytes : List ℕ) (o : Option ℕ) (byte last : ℕ) → slice_get bytes (length bytes - 1) ≡ Some byte → ((before : Option ℕ) → last_or before (printed_byte true byte) ≡ Some last) → last_or o (on_lines bytes) ≡ Some last
last_byte_ends [] o byte last h is = cc
last_byte_ends (x ∷ xs) o byte last h is = let e : length (x ∷ xs) - 1 ≡ length xs = omega arith in last_at_ends x xs o byte last (rw e at h) is

last_is_there : (x : ℕ) (xs : List ℕ) (a b : Option ℕ) → slice_get (x ∷ xs) (length xs) ≡ None → a ≡ b
last_is_there x [] a b h = cc
last_is_there x (y ∷ ys) a b h = last_is_there y ys a b h

pub no_byte_ends : (bytes : List ℕ) (o : Option ℕ) → slice_get bytes (length bytes - 1) ≡ None → last_or o (on_lines bytes) ≡ o
no_byte_ends [] o h = refl
no_byte_ends (x ∷ xs) o h = let e : length (x ∷ xs) - 1 ≡ length xs = omega arith in last_is_there x xs _ _ (rw e at h)

pub ruleset text_ends = (last_byte_ends, no_byte_ends)

pub framed_ends : (n : Node) (o : Option ℕ) (bare : Bool) → bare ≡ is_bare (out-Node n).tag.channel (out-Node n).tag.name → bare ≡ false → Some 125 ≡ last_or o (block_text (tree_of n))
framed_ends n o bare is shut =
    let inside = flat_map (λ x. piece_block_text (piece_of x)) (out-Node n).items.items in
    sym (ap (last_or o) (block_text_out n ∙ ap (λ s. cond s inside (framed (out-Node n).tag.channel (out-Node n).tag.name inside)) (sym is ∙ shut))
    ∙ last_framed o (out-Node n).tag.channel (out-Node n).tag.name inside)

pub bare_ends : (n : Node) (xs : List Item) (i : ℕ) (o e : Option ℕ) (bare : Bool) → bare ≡ is_bare (out-Node n).tag.channel (out-Node n).tag.name → bare ≡ true → length xs ≤ i → xs ≡ (out-Node n).items.items
    → e ≡ last_or o (flat_map (λ x. piece_block_text (piece_of x)) (take i xs)) → e ≡ last_or o (block_text (tree_of n))
bare_ends n xs i o e bare is whole h all so =
    let inside = flat_map (λ x. piece_block_text (piece_of x)) (out-Node n).items.items in
    so ∙ ap (λ items. last_or o (flat_map (λ x. piece_block_text (piece_of x)) items)) (take_all i xs h ∙ all)
    ∙ sym (ap (last_or o) (block_text_out n ∙ ap (λ s. cond s inside (framed (out-Node n).tag.channel (out-Node n).tag.name inside)) (sym is ∙ whole)))

pub next_end : (f : Item → List ℕ) (xs : List Item) (i : ℕ) (x : Item) (ys : List ℕ) (o e d : Option ℕ) → i < length xs → x ≡ get_or xs i x → f x ≡ ys
    → e ≡ last_or o (flat_map f (take i xs)) → d ≡ last_or e ys → d ≡ last_or o (flat_map f (take (i + 1) xs))
next_end f xs i x ys o e d h at is so now =
    let more : flat_map f (take (i + 1) xs) ≡ flat_map f (take i xs) ++ ys =
    ap (flat_map f) (take_more xs i x h ∙ ap (λ y. take i xs ++ y ∷ []) (sym at)) ∙ flat_map-append f (take i xs) (x ∷ []) ∙ ap (λ t. flat_map f (take i xs) ++ t) (append-nil (f x) ∙ is) in
    now ∙ ap (λ k. last_or k ys) so ∙ sym (last_or-append o (flat_map f (take i xs)) ys) ∙ ap (last_or o) (sym more)
