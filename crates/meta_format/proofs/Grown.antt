-- Items that grow at their end, and the bytes that spell them.
use Rattle.std.proofs.Common.{◌≡◌, ℕ, ◌+◌, ◌≤◌, max, true, false, ◌&&◌, nat_le, List, [], ◌++◌, length, refl, sym, ap, ◌∙◌, subst, arith, append_assoc, append-nil, length-append}
use Rattle.std.proofs.lemmas.Bool.{and_parts, and_from, le-leb, false≢true}
use Rattle.block_tree.specs.Tree.{Items, Tree, end, text, block}
use Rattle.block_tree.specs.inside.Growing.{text_after, block_after}
use Rattle.block_tree.specs.Shape.{is_proper, is_tag_name, levels, depth}
use Rattle.meta_format.specs.Spelling.{SpellsText, nothing, plain, escaped, both, SpellsItems, no_item, text_first, block_first, with_body}

pub text_append : {t v s u : List ℕ} → SpellsText t s → SpellsText v u → SpellsText (t ++ v) (s ++ u)
text_append nothing q = q
text_append (plain h p) q = plain h (text_append p q)
text_append (escaped h p) q = escaped h (text_append p q)
text_append (both h p) q = both h (text_append p q)

pub spelled_text : {x : Items} {s t u : List ℕ} → SpellsItems x s → SpellsText t u → SpellsItems (text_after x t) (s ++ u)
spelled_text {t} {u} no_item q = subst (λ z. SpellsItems (text t end) z) (append-nil u) (text_first u [] q no_item)
spelled_text {t} {u} (text_first {t = first} a _ p no_item) q =
    subst (λ z. SpellsItems (text (first ++ t) end) z) (append-nil (a ++ u) ∙ ap (λ z. z ++ u) (sym (append-nil a))) (text_first (a ++ u) [] (text_append p q) no_item)
spelled_text {t} {u} (text_first {t = first} a v p (text_first {t = second} {rest} c d f g)) q =
    subst (λ z. SpellsItems (text first (text_after (text second rest) t)) z) (sym (append_assoc a (c ++ d) u)) (text_first a ((c ++ d) ++ u) p (spelled_text (text_first c d f g) q))
spelled_text {t} {u} (text_first {t = first} a v p (block_first {channel} {name} {inside} {rest} c d f g)) q =
    subst (λ z. SpellsItems (text first (text_after (block channel name inside rest) t)) z) (sym (append_assoc a (with_body channel name c ++ d) u))
    (text_first a ((with_body channel name c ++ d) ++ u) p (spelled_text (block_first c d f g) q))
spelled_text {t} {u} (block_first {channel} {name} {inside} {rest} a v p r) q =
    subst (λ z. SpellsItems (block channel name inside (text_after rest t)) z) (sym (append_assoc (with_body channel name a) v u)) (block_first a (v ++ u) p (spelled_text r q))

pub spelled_block : {x : Items} {s : List ℕ} → SpellsItems x s → (b : Tree) (u : List ℕ) → SpellsItems b.items u → SpellsItems (block_after x b) (s ++ with_body b.channel b.name u)
spelled_block no_item b u q =
    subst (λ z. SpellsItems (block b.channel b.name b.items end) z) (append-nil (with_body b.channel b.name u)) (block_first u [] q no_item)
spelled_block (text_first {t} {rest} a v p r) b u q =
    subst (λ z. SpellsItems (text t (block_after rest b)) z) (sym (append_assoc a v (with_body b.channel b.name u))) (text_first a (v ++ with_body b.channel b.name u) p (spelled_block r b u q))
spelled_block (block_first {channel} {name} {inside} {rest} a v p r) b u q =
    subst (λ z. SpellsItems (block channel name inside (block_after rest b)) z) (sym (append_assoc (with_body channel name a) v (with_body b.channel b.name u)))
    (block_first a (v ++ with_body b.channel b.name u) p (spelled_block r b u q))

long_enough : (t : List ℕ) → 1 ≤ length t → (nat_le 1 (length t) && true) ≡ true
long_enough t h = and_from (nat_le 1 (length t)) true (le-leb 1 (length t) h) refl

pub proper_text : (tag : ℕ) (x : Items) (t : List ℕ) → is_proper tag x ≡ true → 1 ≤ length t → is_proper tag (text_after x t) ≡ true
proper_text tag end t h k = and_from (nat_le 1 (length t) && true) true (long_enough t k) refl
proper_text tag (text s end) t h k = and_from (nat_le 1 (length (s ++ t)) && true) true (long_enough (s ++ t) (let e = length-append s t in omega arith)) refl
proper_text tag (text s (text u rest)) t h k =
    let p = and_parts (nat_le 1 (length s) && false) (is_proper tag (text u rest)) h in
    let q = and_parts (nat_le 1 (length s)) false p.0 in
    absurd (false≢true q.1)
proper_text tag (text s (block c n i rest)) t h k =
    let p = and_parts (nat_le 1 (length s) && true) (is_proper tag (block c n i rest)) h in
    and_from (nat_le 1 (length s) && true) (is_proper tag (block c n i (text_after rest t))) p.0 (proper_text tag (block c n i rest) t p.1 k)
proper_text tag (block c n i rest) t h k =
    let p = and_parts (is_tag_name tag n && is_proper tag i) (is_proper tag rest) h in
    and_from (is_tag_name tag n && is_proper tag i) (is_proper tag (text_after rest t)) p.0 (proper_text tag rest t p.1 k)

pub levels_text : (x : Items) (t : List ℕ) → levels (text_after x t) ≡ levels x
levels_text end t = refl
levels_text (text s end) t = refl
levels_text (text s (text u rest)) t = levels_text (text u rest) t
levels_text (text s (block c n i rest)) t = levels_text (block c n i rest) t
levels_text (block c n i rest) t = ap (max (1 + levels i)) (levels_text rest t)

pub proper_block : (tag : ℕ) (x : Items) (b : Tree) → is_proper tag x ≡ true → is_tag_name tag b.name ≡ true → is_proper tag b.items ≡ true → is_proper tag (block_after x b) ≡ true
proper_block tag end b h k m = and_from (is_tag_name tag b.name && is_proper tag b.items) true (and_from (is_tag_name tag b.name) (is_proper tag b.items) k m) refl
proper_block tag (text s end) b h k m =
    let p = and_parts (nat_le 1 (length s) && true) true h in
    and_from (nat_le 1 (length s) && true) (is_proper tag (block b.channel b.name b.items end)) p.0 (proper_block tag end b refl k m)
proper_block tag (text s (text u rest)) b h k m =
    let p = and_parts (nat_le 1 (length s) && false) (is_proper tag (text u rest)) h in
    let q = and_parts (nat_le 1 (length s)) false p.0 in
    absurd (false≢true q.1)
proper_block tag (text s (block c n i rest)) b h k m =
    let p = and_parts (nat_le 1 (length s) && true) (is_proper tag (block c n i rest)) h in
    and_from (nat_le 1 (length s) && true) (is_proper tag (block c n i (block_after rest b))) p.0 (proper_block tag (block c n i rest) b p.1 k m)
proper_block tag (block c n i rest) b h k m =
    let p = and_parts (is_tag_name tag n && is_proper tag i) (is_proper tag rest) h in
    and_from (is_tag_name tag n && is_proper tag i) (is_proper tag (block_after rest b)) p.0 (proper_block tag rest b p.1 k m)

pub levels_block : (x : Items) (b : Tree) → levels (block_after x b) ≡ max (levels x) (depth b)
levels_block end b = let same : max (depth b) 0 ≡ max 0 (depth b) = omega arith in same
levels_block (text s rest) b = levels_block rest b
levels_block (block c n i rest) b =
    let rest_is = levels_block rest b in
    let same : max (1 + levels i) (levels (block_after rest b)) ≡ max (max (1 + levels i) (levels rest)) (depth b) = omega arith in
    same
