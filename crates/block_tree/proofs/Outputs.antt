-- The output, an item at a time.
use Rattle.std.proofs.Common.{◌≡◌, ◌≤◌, ◌+◌, ℕ, Bool, true, false, not, ◌&&◌, nat_le, max, cond, length, List, [], ◌∷◌, ◌++◌, map, refl, ap, sym, ◌∙◌, append_assoc, arith, subst, ap₂, take, get_or, ◌<◌}
use Rattle.std.proofs.lemmas.List.{map-append, take_more}
use Rattle.std.proofs.lemmas.Bool.{and_parts, and_from, false≢true, le-leb, leb-true}
use Rattle.std.proofs.Math.Nat.{le-max_left, le-max_right, max-le}
use Rattle.block_tree.specs.Tree.{Items, Tree, Piece, text_piece, block_piece, items_from, end, text, block}
use Rattle.block_tree.specs.Output.{output, output_items, is_aside, join}
use Rattle.block_tree.specs.inside.Words.{no_output}
use Rattle.block_tree.specs.inside.Growing.{text_after, block_after}
use Rattle.block_tree.specs.View.{piece_of, tree_of, piece_text, piece_block, tree_roll, tree_out}
use Rattle.block_tree.specs.declared.tree.Item.{Item}
use Rattle.block_tree.specs.declared.tree.Item.TheVariants.{Block, Text}
use Rattle.block_tree.specs.declared.tree.Node.{Node, Node-F, roll-Node, out-Node}
use Rattle.block_tree.specs.Shape.{is_proper, begins_with_text, is_block_within, is_block, is_tag_name, levels, depth, longest_tag, most_levels}

pub text_after_text : (ps : List Piece) (s t : List ℕ) → text_after (items_from (ps ++ text_piece s ∷ [])) t ≡ items_from (ps ++ text_piece (s ++ t) ∷ [])
text_after_text [] s t = refl
text_after_text (block_piece b ∷ ps) s t = ap (block b.channel b.name b.items) (text_after_text ps s t)
text_after_text (text_piece u ∷ []) s t = refl
text_after_text (text_piece u ∷ text_piece v ∷ ps) s t = ap (text u) (text_after_text (text_piece v ∷ ps) s t)
text_after_text (text_piece u ∷ block_piece b ∷ ps) s t = ap (text u) (text_after_text (block_piece b ∷ ps) s t)

pub text_after_block : (ps : List Piece) (c : Tree) (t : List ℕ) → text_after (items_from (ps ++ block_piece c ∷ [])) t ≡ items_from ((ps ++ block_piece c ∷ []) ++ text_piece t ∷ [])
text_after_block [] c t = refl
text_after_block (block_piece b ∷ ps) c t = ap (block b.channel b.name b.items) (text_after_block ps c t)
text_after_block (text_piece u ∷ []) c t = refl
text_after_block (text_piece u ∷ text_piece v ∷ ps) c t = ap (text u) (text_after_block (text_piece v ∷ ps) c t)
text_after_block (text_piece u ∷ block_piece b ∷ ps) c t = ap (text u) (text_after_block (block_piece b ∷ ps) c t)

pub items_after : (ps : List Piece) (b : Tree) → items_from (ps ++ block_piece b ∷ []) ≡ block_after (items_from ps) b
items_after [] b = refl
items_after (text_piece t ∷ ps) b = ap (text t) (items_after ps b)
items_after (block_piece c ∷ ps) b = ap (block c.channel c.name c.items) (items_after ps b)

join_text_after : (s : List ℕ) (x : Items) (t : List ℕ) → join s (text_after x t) ≡ text_after (join s x) t
join_text_after s end t = refl
join_text_after s (text u end) t = ap (λ w. text w end) (sym (append_assoc s u t))
join_text_after s (text u (text v rest)) t = refl
join_text_after s (text u (block c n i rest)) t = refl
join_text_after s (block c n i rest) t = refl

join_block_after : (s : List ℕ) (x : Items) (b : Tree) → join s (block_after x b) ≡ block_after (join s x) b
join_block_after s end b = refl
join_block_after s (text u rest) b = refl
join_block_after s (block c n i rest) b = refl

chosen_text : (a : Bool) (c : Bool) (n : List ℕ) (i x : Items) (t : List ℕ) → cond a (text_after x t) (block c n i (text_after x t)) ≡ text_after (cond a x (block c n i x)) t
chosen_text true c n i x t = refl
chosen_text false c n i x t = refl

chosen_block : (a : Bool) (c : Bool) (n : List ℕ) (i x : Items) (b : Tree) → cond a (block_after x b) (block c n i (block_after x b)) ≡ block_after (cond a x (block c n i x)) b
chosen_block true c n i x b = refl
chosen_block false c n i x b = refl

pub output_text : (ps : List Piece) (t : List ℕ) → output_items (items_from (ps ++ text_piece t ∷ [])) ≡ text_after (output_items (items_from ps)) t
output_text [] t = refl
output_text (text_piece s ∷ ps) t = ap (join s) (output_text ps t) ∙ join_text_after s (output_items (items_from ps)) t
output_text (block_piece b ∷ ps) t = ap (λ x. cond (is_aside b.channel b.name) x (block b.channel b.name (output_items b.items) x)) (output_text ps t)
    ∙ chosen_text (is_aside b.channel b.name) b.channel b.name (output_items b.items) (output_items (items_from ps)) t

pub kept_block : (ps : List Piece) (b : Tree) → is_aside b.channel b.name ≡ false
    → output_items (items_from (ps ++ block_piece b ∷ [])) ≡ block_after (output_items (items_from ps)) (record { channel = b.channel; name = b.name; items = output_items b.items })
kept_block [] b h = ap (λ a. cond a end (block b.channel b.name (output_items b.items) end)) h
kept_block (text_piece s ∷ ps) b h = ap (join s) (kept_block ps b h) ∙ join_block_after s (output_items (items_from ps)) (record { channel = b.channel; name = b.name; items = output_items b.items })
kept_block (block_piece c ∷ ps) b h = ap (λ x. cond (is_aside c.channel c.name) x (block c.channel c.name (output_items c.items) x)) (kept_block ps b h)
    ∙ chosen_block (is_aside c.channel c.name) c.channel c.name (output_items c.items) (output_items (items_from ps)) (record { channel = b.channel; name = b.name; items = output_items b.items })

pub left_block : (ps : List Piece) (b : Tree) → is_aside b.channel b.name ≡ true → output_items (items_from (ps ++ block_piece b ∷ [])) ≡ output_items (items_from ps)
left_block [] b h = ap (λ a. cond a end (block b.channel b.name (output_items b.items) end)) h
left_block (text_piece s ∷ ps) b h = ap (join s) (left_block ps b h)
left_block (block_piece c ∷ ps) b h = ap (λ x. cond (is_aside c.channel c.name) x (block c.channel c.name (output_items c.items) x)) (left_block ps b h)

pub ruleset output_rules = (tree_roll, output_text, items_after, kept_block, left_block)

pub grown_text : (xs : List Item) (s t : List ℕ) → items_from (map piece_of (xs ++ Text (s ++ t) ∷ [])) ≡ text_after (items_from (map piece_of (xs ++ Text s ∷ []))) t
grown_text xs s t = ap items_from (map-append piece_of xs (Text (s ++ t) ∷ []) ∙ ap (λ p. map piece_of xs ++ p ∷ []) (piece_text (s ++ t)))
    ∙ sym (text_after_text (map piece_of xs) s t)
    ∙ sym (ap (λ ps. text_after (items_from ps) t) (map-append piece_of xs (Text s ∷ []) ∙ ap (λ p. map piece_of xs ++ p ∷ []) (piece_text s)))

pub grown_block : (xs : List Item) (n : Node) (t : List ℕ) → items_from (map piece_of ((xs ++ Block n ∷ []) ++ Text t ∷ [])) ≡ text_after (items_from (map piece_of (xs ++ Block n ∷ []))) t
grown_block xs n t = ap items_from (map-append piece_of (xs ++ Block n ∷ []) (Text t ∷ []) ∙ ap₂ (λ ps p. ps ++ p ∷ []) (map-append piece_of xs (Block n ∷ []) ∙ ap (λ p. map piece_of xs ++ p ∷ []) (piece_block n)) (piece_text t))
    ∙ sym (text_after_block (map piece_of xs) (tree_of n) t)
    ∙ sym (ap (λ ps. text_after (items_from ps) t) (map-append piece_of xs (Block n ∷ []) ∙ ap (λ p. map piece_of xs ++ p ∷ []) (piece_block n)))

pub ruleset grown = (grown_text, grown_block)

taken : (xs : List Item) (i : ℕ) (x : Item) → i < length xs → x ≡ get_or xs i x → map piece_of (take (i + 1) xs) ≡ map piece_of (take i xs) ++ piece_of x ∷ []
taken xs i x h e = ap (map piece_of) (take_more xs i x h ∙ ap (λ y. take i xs ++ y ∷ []) (sym e)) ∙ map-append piece_of (take i xs) (x ∷ [])

pub next_text : (xs : List Item) (i : ℕ) (x : Item) (t : List ℕ) (kept : Items) → i < length xs → x ≡ get_or xs i x → x ≡ Text t
    → kept ≡ output_items (items_from (map piece_of (take i xs))) → text_after kept t ≡ output_items (items_from (map piece_of (take (i + 1) xs)))
next_text xs i x t kept h e is so = ap (λ k. text_after k t) so ∙ sym (output_text (map piece_of (take i xs)) t)
    ∙ sym (ap (λ ps. output_items (items_from ps)) (taken xs i x h e ∙ ap (λ p. map piece_of (take i xs) ++ p ∷ []) (ap piece_of is ∙ piece_text t)))

pub next_aside : (xs : List Item) (i : ℕ) (x : Item) (n : Node) (kept : Items) → i < length xs → x ≡ get_or xs i x → x ≡ Block n → is_aside (out-Node n).tag.channel (out-Node n).tag.name ≡ true
    → kept ≡ output_items (items_from (map piece_of (take i xs))) → kept ≡ output_items (items_from (map piece_of (take (i + 1) xs)))
next_aside xs i x n kept h e is aside so = so ∙ sym (left_block (map piece_of (take i xs)) (tree_of n) (ap (λ b. is_aside b.channel b.name) (tree_out n) ∙ aside))
    ∙ sym (ap (λ ps. output_items (items_from ps)) (taken xs i x h e ∙ ap (λ p. map piece_of (take i xs) ++ p ∷ []) (ap piece_of is ∙ piece_block n)))

pub next_block : (xs : List Item) (i : ℕ) (x : Item) (n m : Node) (ys : List Item) → i < length xs → x ≡ get_or xs i x → x ≡ Block n → is_aside (out-Node n).tag.channel (out-Node n).tag.name ≡ false
    → tree_of m ≡ record { channel = (tree_of n).channel; name = (tree_of n).name; items = output_items (tree_of n).items }
    → items_from (map piece_of ys) ≡ output_items (items_from (map piece_of (take i xs)))
    → items_from (map piece_of (ys ++ Block m ∷ [])) ≡ output_items (items_from (map piece_of (take (i + 1) xs)))
next_block xs i x n m ys h e is aside made so =
    ap items_from (map-append piece_of ys (Block m ∷ []) ∙ ap (λ p. map piece_of ys ++ p ∷ []) (piece_block m))
    ∙ items_after (map piece_of ys) (tree_of m) ∙ ap₂ block_after so made
    ∙ sym (kept_block (map piece_of (take i xs)) (tree_of n) (ap (λ b. is_aside b.channel b.name) (tree_out n) ∙ aside))
    ∙ sym (ap (λ ps. output_items (items_from ps)) (taken xs i x h e ∙ ap (λ p. map piece_of (take i xs) ++ p ∷ []) (ap piece_of is ∙ piece_block n)))

pub made_node : (x : Node-F Item Node) (n : Node) → x.tag.channel ≡ (out-Node n).tag.channel → x.tag.name ≡ (out-Node n).tag.name
    → items_from (map piece_of x.items.items) ≡ output_items (items_from (map piece_of (out-Node n).items.items))
    → tree_of (roll-Node x) ≡ record { channel = (tree_of n).channel; name = (tree_of n).name; items = output_items (tree_of n).items }
made_node x n c m so = tree_roll x
    ∙ ap (λ v. record { channel = v; name = x.tag.name; items = items_from (map piece_of x.items.items) }) c
    ∙ ap (λ v. record { channel = (out-Node n).tag.channel; name = v; items = items_from (map piece_of x.items.items) }) m
    ∙ ap (λ v. record { channel = (out-Node n).tag.channel; name = (out-Node n).tag.name; items = v }) so
    ∙ sym (ap (λ b. record { channel = b.channel; name = b.name; items = output_items b.items }) (tree_out n))

-- an output is a block

longer : (t u : List ℕ) → nat_le 1 (length t) ≡ true → nat_le 1 (length (t ++ u)) ≡ true
longer [] u h = absurd (false≢true h)
longer (c ∷ t) u h = le-leb 1 (length ((c ∷ t) ++ u)) (omega arith)

joined : (most : ℕ) (t : List ℕ) (x : Items) → nat_le 1 (length t) ≡ true → is_proper most x ≡ true → is_proper most (join t x) ≡ true
joined most t end h k = and_from (nat_le 1 (length t) && true) true (and_from (nat_le 1 (length t)) true h refl) refl
joined most t (text u rest) h k =
    let p = and_parts (nat_le 1 (length u) && not (begins_with_text rest)) (is_proper most rest) k in
    let q = and_parts (nat_le 1 (length u)) (not (begins_with_text rest)) p.0 in
    and_from (nat_le 1 (length (t ++ u)) && not (begins_with_text rest)) (is_proper most rest)
    (and_from (nat_le 1 (length (t ++ u))) (not (begins_with_text rest)) (longer t u h) q.1) p.1
joined most t (block c n i rest) h k =
    and_from (nat_le 1 (length t) && true) (is_proper most (block c n i rest)) (and_from (nat_le 1 (length t)) true h refl) k

chosen_proper : (most : ℕ) (a : Bool) (c : Bool) (n : List ℕ) (i x : Items) → is_tag_name most n ≡ true → is_proper most i ≡ true → is_proper most x ≡ true
    → is_proper most (cond a x (block c n i x)) ≡ true
chosen_proper most true c n i x h k m = m
chosen_proper most false c n i x h k m = and_from (is_tag_name most n && is_proper most i) (is_proper most x) (and_from (is_tag_name most n) (is_proper most i) h k) m

items_proper : (most : ℕ) (x : Items) → is_proper most x ≡ true → is_proper most (output_items x) ≡ true
items_proper most end h = refl
items_proper most (text t rest) h =
    let p = and_parts (nat_le 1 (length t) && not (begins_with_text rest)) (is_proper most rest) h in
    let q = and_parts (nat_le 1 (length t)) (not (begins_with_text rest)) p.0 in
    joined most t (output_items rest) q.0 (items_proper most rest p.1)
items_proper most (block c n i rest) h =
    let p = and_parts (is_tag_name most n && is_proper most i) (is_proper most rest) h in
    let q = and_parts (is_tag_name most n) (is_proper most i) p.0 in
    chosen_proper most (is_aside c n) c n (output_items i) (output_items rest) q.0 (items_proper most i q.1) (items_proper most rest p.1)

join_levels : (t : List ℕ) (x : Items) → levels (join t x) ≡ levels x
join_levels t end = refl
join_levels t (text u rest) = refl
join_levels t (block c n i rest) = refl

chosen_levels : (a : Bool) (c : Bool) (n : List ℕ) (i x : Items) (k m : ℕ) → levels i ≤ k → levels x ≤ m → levels (cond a x (block c n i x)) ≤ max (1 + k) m
chosen_levels true c n i x k m h r = let g = le-max_right (1 + k) m in omega arith
chosen_levels false c n i x k m h r = let u = le-max_left (1 + k) m in let v = le-max_right (1 + k) m in max-le (omega arith) (omega arith)

output_levels : (x : Items) → levels (output_items x) ≤ levels x
output_levels end = omega arith
output_levels (text t rest) = subst (λ k. k ≤ levels rest) (sym (join_levels t (output_items rest))) (output_levels rest)
output_levels (block c n i rest) = chosen_levels (is_aside c n) c n (output_items i) (output_items rest) (levels i) (levels rest) (output_levels i) (output_levels rest)

kept_within : (tag deep : ℕ) (b : Tree) → is_block_within tag deep b ≡ true
    → is_block_within tag deep (record { channel = b.channel; name = b.name; items = output_items b.items }) ≡ true
kept_within tag deep b h =
    let p = and_parts (is_tag_name tag b.name && is_proper tag b.items) (nat_le (depth b) deep) h in
    let q = and_parts (is_tag_name tag b.name) (is_proper tag b.items) p.0 in
    and_from (is_tag_name tag b.name && is_proper tag (output_items b.items)) (nat_le (1 + levels (output_items b.items)) deep)
    (and_from (is_tag_name tag b.name) (is_proper tag (output_items b.items)) q.0 (items_proper tag b.items q.1))
    (le-leb (1 + levels (output_items b.items)) deep (let u = leb-true (depth b) deep p.1 in let v = output_levels b.items in omega arith))

chosen_within : (tag deep : ℕ) (a : Bool) (b : Tree) → is_block_within tag deep no_output ≡ true → is_block_within tag deep b ≡ true
    → is_block_within tag deep (cond a no_output (record { channel = b.channel; name = b.name; items = output_items b.items })) ≡ true
chosen_within tag deep true b r h = r
chosen_within tag deep false b r h = kept_within tag deep b h

pub output_is_block : (b : Tree) → is_block b ≡ true → is_block (output b) ≡ true
output_is_block b h = chosen_within longest_tag most_levels (is_aside b.channel b.name) b refl h

pub kept_is_block : (b : Tree) → is_block b ≡ true → is_block (record { channel = b.channel; name = b.name; items = output_items b.items }) ≡ true
kept_is_block b h = kept_within longest_tag most_levels b h
