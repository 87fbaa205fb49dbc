-- What is printed of a spelling is the text of its block.
use Rattle.std.proofs.Common.{◌≡◌, ◌<◌, ◌≤◌, ◌+◌, ◌-◌, ℕ, suc, nat_eq, nat_le, not, ◌||◌, ◌&&◌, Bool, true, false, List, [], ◌∷◌, ◌++◌, length, take, drop, get_or, refl, sym, ap, ◌∙◌, append_assoc, append-nil, arith}
use Rattle.std.proofs.lemmas.Bool.{cond-true, cond-false, or_parts, or_from, and_parts, ne_eqb, leb-true, true≢false}
use Rattle.std.proofs.lemmas.List.{drop-drop, take-append-drop, length-take-le, length-drop, get_or-take, get_or-drop, drop_all}
use Rattle.std.specs.List.{list_all}
use Rattle.block_tree.specs.Tree.{Items, Tree}
use Rattle.block_tree.specs.Shape.{is_proper, is_tag_name, is_tag_byte, begins_with_text, depth}
use Rattle.meta_format.specs.Limits.{Limits}
use Rattle.meta_format.specs.Spelling.{is_special, separator, SpellsText, nothing, plain, escaped, both, SpellsItems, no_item, text_first, block_first, with_body, Spells}
use Rattle.sheet_text.specs.Escape.{is_plain, printed_byte, escaped_byte, on_line}
use Rattle.sheet_text.specs.Blocks.{sign, framed, items_tree_text, tree_text}
use Rattle.sheet_text.specs.inside.PlainRuns.{AllPassBetween}
use Rattle.sheet_text.specs.inside.Spelled.{spelled_text, PrintsTo}

no_special : (c : ℕ) → nat_eq c 2 ≡ false → nat_eq c 5 ≡ false → nat_eq c 27 ≡ false → is_special c ≡ false
no_special c two five escape = or_from (nat_eq c 2 || nat_eq c 5) (nat_eq c 27) (or_from (nat_eq c 2) (nat_eq c 5) two five) escape

-- a byte of a text that spells itself
itself : (c : ℕ) (s : List ℕ) → is_special c ≡ false → spelled_text false (c ∷ s) ≡ printed_byte false c ++ spelled_text false s
itself c s h =
    let p = or_parts (nat_eq c 2 || nat_eq c 5) (nat_eq c 27) h in
    let q = or_parts (nat_eq c 2) (nat_eq c 5) p.0 in
    cond-false (nat_eq c 27) _ _ p.1 ∙ ap (λ t. t ++ spelled_text false s) (cond-false (nat_eq c 2) _ _ q.0 ∙ cond-false (nat_eq c 5) _ _ q.1)

text_printed : {t s : List ℕ} → SpellsText t s → (rest : List ℕ) → spelled_text false (s ++ rest) ≡ on_line t ++ spelled_text false rest
text_printed nothing rest = refl
text_printed (plain {c} {t} {s} h p) rest =
    itself c (s ++ rest) h ∙ ap (λ r. printed_byte false c ++ r) (text_printed p rest) ∙ sym (append_assoc (printed_byte false c) (on_line t) (spelled_text false rest))
text_printed (escaped {c} {t} {s} h p) rest =
    ap (λ r. r ++ spelled_text false (s ++ rest)) (cond-true (is_special c) (printed_byte false c) _ h)
    ∙ ap (λ r. printed_byte false c ++ r) (text_printed p rest) ∙ sym (append_assoc (printed_byte false c) (on_line t) (spelled_text false rest))
text_printed (both {c} {t} {s} h p) rest =
    ap (λ r. r ++ spelled_text false (s ++ rest)) (cond-false (is_special c) (printed_byte false c) (printed_byte false 27 ++ printed_byte false c) h)
    ∙ append_assoc (printed_byte false 27) (printed_byte false c) (spelled_text false (s ++ rest))
    ∙ ap (λ r. printed_byte false 27 ++ (printed_byte false c ++ r)) (text_printed p rest)
    ∙ ap (λ r. printed_byte false 27 ++ r) (sym (append_assoc (printed_byte false c) (on_line t) (spelled_text false rest)))
    ∙ sym (append_assoc (printed_byte false 27) (printed_byte false c ++ on_line t) (spelled_text false rest))

-- a name spells itself
tag_byte : (c : ℕ) → is_tag_byte c ≡ true → is_special c ≡ false
tag_byte c h =
    let p = and_parts (nat_le 32 c && not (nat_eq c 58)) (not (nat_eq c 35)) h in
    let q = and_parts (nat_le 32 c) (not (nat_eq c 58)) p.0 in
    let high = leb-true 32 c q.0 in
    no_special c (ne_eqb c 2 (λ e. omega arith)) (ne_eqb c 5 (λ e. omega arith)) (ne_eqb c 27 (λ e. omega arith))

name_spelled : (name : List ℕ) → list_all is_tag_byte name ≡ true → SpellsText name name
name_spelled [] h = nothing
name_spelled (c ∷ name) h = let p = and_parts (is_tag_byte c) (list_all is_tag_byte name) h in plain (tag_byte c p.0) (name_spelled name p.1)

tag_bytes : (most : ℕ) (name : List ℕ) → is_tag_name most name ≡ true → list_all is_tag_byte name ≡ true
tag_bytes most name h = (and_parts (nat_le 1 (length name) && nat_le (length name) most) (list_all is_tag_byte name) h).1

separator_printed : (channel : Bool) (rest : List ℕ) → spelled_text false (separator channel ∷ rest) ≡ sign channel ∷ spelled_text false rest
separator_printed false rest = refl
separator_printed true rest = refl

block_printed : (most : ℕ) (channel : Bool) (name body rest inside : List ℕ) → is_tag_name most name ≡ true → ((more : List ℕ) → spelled_text false (body ++ more) ≡ inside ++ spelled_text false more)
    → spelled_text false (with_body channel name body ++ rest) ≡ framed channel name inside ++ spelled_text false rest
block_printed most channel name body rest inside h inner =
    ap (λ t. spelled_text false (2 ∷ t)) (append_assoc name (separator channel ∷ (body ++ 5 ∷ [])) rest ∙ ap (λ t. name ++ separator channel ∷ t) (append_assoc body (5 ∷ []) rest))
    ∙ ap (λ t. 123 ∷ t) (text_printed (name_spelled name (tag_bytes most name h)) (separator channel ∷ (body ++ 5 ∷ rest)))
    ∙ ap (λ t. 123 ∷ (on_line name ++ t)) (separator_printed channel (body ++ 5 ∷ rest) ∙ ap (λ t. sign channel ∷ t) (inner (5 ∷ rest)))
    ∙ ap (λ t. 123 ∷ (on_line name ++ sign channel ∷ t)) (sym (append_assoc inside (125 ∷ []) (spelled_text false rest)))
    ∙ ap (λ t. 123 ∷ t) (sym (append_assoc (on_line name) (sign channel ∷ (inside ++ 125 ∷ [])) (spelled_text false rest)))

items_printed : (most : ℕ) {x : Items} {s : List ℕ} → is_proper most x ≡ true → SpellsItems x s → (more : List ℕ) → spelled_text false (s ++ more) ≡ items_tree_text x ++ spelled_text false more
items_printed most h no_item more = refl
items_printed most h (text_first {t} {rest} u v p r) more =
    let k = and_parts (nat_le 1 (length t) && not (begins_with_text rest)) (is_proper most rest) h in
    ap (spelled_text false) (append_assoc u v more) ∙ text_printed p (v ++ more) ∙ ap (λ z. on_line t ++ z) (items_printed most k.1 r more)
    ∙ sym (append_assoc (on_line t) (items_tree_text rest) (spelled_text false more))
items_printed most h (block_first {channel} {name} {inside} {rest} u v p r) more =
    let k = and_parts (is_tag_name most name && is_proper most inside) (is_proper most rest) h in
    let m = and_parts (is_tag_name most name) (is_proper most inside) k.0 in
    ap (spelled_text false) (append_assoc (with_body channel name u) v more)
    ∙ block_printed most channel name u (v ++ more) (items_tree_text inside) m.0 (items_printed most m.1 p)
    ∙ ap (λ z. framed channel name (items_tree_text inside) ++ z) (items_printed most k.1 r more)
    ∙ sym (append_assoc (framed channel name (items_tree_text inside)) (items_tree_text rest) (spelled_text false more))

pub spelling_printed : (most : Limits) (b : Tree) (s : List ℕ) → Spells most b s → spelled_text false s ≡ tree_text b
spelling_printed most b s p =
    let k = and_parts (is_tag_name most.tag b.name && is_proper most.tag b.items) (nat_le (depth b) most.levels) p.within in
    let m = and_parts (is_tag_name most.tag b.name) (is_proper most.tag b.items) k.0 in
    ap (spelled_text false) (p.is ∙ sym (append-nil (with_body b.channel b.name p.body)))
    ∙ block_printed most.tag b.channel b.name p.body [] (items_tree_text b.items) m.0 (items_printed most.tag m.1 p.inside)
    ∙ append-nil (framed b.channel b.name (items_tree_text b.items))

-- by offsets

pub prints_more : (bytes : List ℕ) (from at to : ℕ) (t u : List ℕ) → PrintsTo bytes from at t → PrintsTo bytes at to u → PrintsTo bytes from to (t ++ u)
prints_more bytes from at to t u e f = e ∙ ap (λ r. t ++ r) f ∙ sym (append_assoc t u (spelled_text false (drop to bytes)))

pub prints_all : (bytes : List ℕ) (at : ℕ) (t : List ℕ) → length bytes ≤ at → PrintsTo bytes 0 at t → t ≡ spelled_text false bytes
prints_all bytes at t end e = sym (append-nil t) ∙ ap (λ r. t ++ spelled_text false r) (sym (drop_all at bytes end)) ∙ sym e

-- bytes that are printed as themselves

plain_not : (c n : ℕ) → is_plain false c ≡ true → is_plain false n ≡ false → nat_eq c n ≡ false
plain_not c n h k = ne_eqb c n (λ e. let no : true ≡ false = sym h ∙ ap (is_plain false) e ∙ k in true≢false no)

plain_itself : (c : ℕ) (s : List ℕ) → is_plain false c ≡ true → spelled_text false (c ∷ s) ≡ c ∷ spelled_text false s
plain_itself c s h =
    itself c s (no_special c (plain_not c 2 h refl) (plain_not c 5 h refl) (plain_not c 27 h refl))
    ∙ ap (λ t. t ++ spelled_text false s) (cond-true (is_plain false c) (c ∷ []) (escaped_byte c) h)

run_printed : (t rest : List ℕ) → ((k : ℕ) → k < length t → is_plain false (get_or t k 0) ≡ true) → spelled_text false (t ++ rest) ≡ t ++ spelled_text false rest
run_printed [] rest h = refl
run_printed (c ∷ t) rest h = plain_itself c (t ++ rest) (h 0 (omega arith)) ∙ ap (λ r. c ∷ r) (run_printed t rest (λ k less. h (suc k) (omega arith)))

pub prints_run : (bytes : List ℕ) (at end : ℕ) → at ≤ end → end ≤ length bytes → AllPassBetween (is_plain false) bytes at end → PrintsTo bytes at end (take (end - at) (drop at bytes))
prints_run bytes at end low high pass =
    ap (spelled_text false) (sym (take-append-drop n (drop at bytes)) ∙ ap (λ r. run ++ r) (drop-drop n at bytes ∙ ap (λ m. drop m bytes) place)) ∙ run_printed run (drop end bytes) each
  where
    n : ℕ
    n = end - at

    run : List ℕ
    run = take n (drop at bytes)

    place : at + n ≡ end
    place = omega (arith, low)

    left : length (drop at bytes) ≡ length bytes - at
    left = length-drop at bytes

    size : length run ≡ n
    size = length-take-le n (drop at bytes) (omega (arith, left, low, high))

    each : (k : ℕ) → k < length run → is_plain false (get_or run k 0) ≡ true
    each k less =
        ap (is_plain false) (get_or-take n (drop at bytes) k 0 (omega (arith, size, less)) ∙ get_or-drop at bytes k 0) ∙ pass (at + k) (omega arith) (omega (arith, size, less, low))
