-- Tags, and bytes of tags.
use Rattle.std.proofs.Common.{◌≡◌, ℕ, ◌<◌, ◌≤◌, Bool, true, false, not, ◌&&◌, ◌||◌, nat_eq, nat_le, nat_lt, List, [], ◌∷◌, ◌++◌, length, refl, sym, arith, length-append}
use Rattle.std.proofs.lemmas.Bool.{and_parts, and_from, or_parts, or_from, eqb-false, ltb-false, le-leb, leb-true, not_from_false, not-true, true≢false}
use Rattle.std.specs.List.{list_all}
use Rattle.block_tree.specs.Shape.{is_tag_byte, is_tag_name}
use Rattle.meta_format.specs.Spelling.{is_separator}
use Rattle.meta_format.specs.inside.Machine.{is_bad_tag}

-- the parts of a right tag
pub tag_some : (most : ℕ) (name : List ℕ) → is_tag_name most name ≡ true → 0 < length name
tag_some most name h =
    let p = and_parts (nat_le 1 (length name) && nat_le (length name) most) (list_all is_tag_byte name) h in
    leb-true 1 (length name) (and_parts (nat_le 1 (length name)) (nat_le (length name) most) p.0).0

pub tag_few : (most : ℕ) (name : List ℕ) → is_tag_name most name ≡ true → length name ≤ most
tag_few most name h =
    let p = and_parts (nat_le 1 (length name) && nat_le (length name) most) (list_all is_tag_byte name) h in
    leb-true (length name) most (and_parts (nat_le 1 (length name)) (nat_le (length name) most) p.0).1

pub tag_bytes : (most : ℕ) (name : List ℕ) → is_tag_name most name ≡ true → list_all is_tag_byte name ≡ true
tag_bytes most name h = (and_parts (nat_le 1 (length name) && nat_le (length name) most) (list_all is_tag_byte name) h).1

pub tag_from : (most : ℕ) (name : List ℕ) → 0 < length name → length name ≤ most → list_all is_tag_byte name ≡ true → is_tag_name most name ≡ true
tag_from most name some few each =
    and_from _ _ (and_from _ _ (le-leb 1 (length name) some) (le-leb (length name) most few)) each

-- a byte of a tag is none below 32 and no separator
pub byte_high : (c : ℕ) → is_tag_byte c ≡ true → 32 ≤ c
byte_high c h =
    let p = and_parts (nat_le 32 c && not (nat_eq c 58)) (not (nat_eq c 35)) h in
    leb-true 32 c (and_parts (nat_le 32 c) (not (nat_eq c 58)) p.0).0

pub byte_apart : (c : ℕ) → is_tag_byte c ≡ true → is_separator c ≡ false
byte_apart c h =
    let p = and_parts (nat_le 32 c && not (nat_eq c 58)) (not (nat_eq c 35)) h in
    let q = and_parts (nat_le 32 c) (not (nat_eq c 58)) p.0 in
    or_from _ _ (not-true (nat_eq c 58) q.1) (not-true (nat_eq c 35) p.1)

pub byte_from : (c : ℕ) → 32 ≤ c → is_separator c ≡ false → is_tag_byte c ≡ true
byte_from c high apart =
    let p = or_parts (nat_eq c 58) (nat_eq c 35) apart in
    and_from _ _ (and_from _ _ (le-leb 32 c high) (not_from_false _ p.0)) (not_from_false _ p.1)

pub and_true_left : (x y : Bool) → x ≡ true → (x && y) ≡ false → y ≡ false
and_true_left true y e h = h
and_true_left false y e h = absurd (true≢false (sym e))

pub list_all-push : (p : ℕ → Bool) (xs : List ℕ) (x : ℕ) → list_all p xs ≡ true → p x ≡ true → list_all p (xs ++ x ∷ []) ≡ true
list_all-push p [] x h k = and_from (p x) true k refl
list_all-push p (y ∷ xs) x h k = let parts = and_parts (p y) (list_all p xs) h in and_from (p y) (list_all p (xs ++ x ∷ [])) parts.0 (list_all-push p xs x parts.1 k)

pub name_done : (most : ℕ) (name : List ℕ) (c : ℕ) → is_bad_tag most name c ≡ false → is_separator c ≡ true → list_all is_tag_byte name ≡ true → length name ≤ most → is_tag_name most name ≡ true
name_done most name c good sep each few =
    let parts = or_parts (nat_lt c 32 || (is_separator c && nat_eq (length name) 0)) (not (is_separator c) && nat_eq (length name) most) good in
    let low = or_parts (nat_lt c 32) (is_separator c && nat_eq (length name) 0) parts.0 in
    let nonempty = eqb-false (length name) 0 (and_true_left (is_separator c) (nat_eq (length name) 0) sep low.1) in
    tag_from most name (omega arith) few each

pub name_more : (most : ℕ) (name : List ℕ) (c : ℕ) → is_bad_tag most name c ≡ false → is_separator c ≡ false → list_all is_tag_byte name ≡ true → list_all is_tag_byte (name ++ c ∷ []) ≡ true
name_more most name c good apart each =
    let parts = or_parts (nat_lt c 32 || (is_separator c && nat_eq (length name) 0)) (not (is_separator c) && nat_eq (length name) most) good in
    let low = or_parts (nat_lt c 32) (is_separator c && nat_eq (length name) 0) parts.0 in
    let high = ltb-false c 32 low.0 in
    list_all-push is_tag_byte name c each (byte_from c high apart)

pub name_short : (most : ℕ) (name : List ℕ) (c : ℕ) → is_bad_tag most name c ≡ false → is_separator c ≡ false → length name ≤ most → length (name ++ c ∷ []) ≤ most
name_short most name c good apart few =
    let parts = or_parts (nat_lt c 32 || (is_separator c && nat_eq (length name) 0)) (not (is_separator c) && nat_eq (length name) most) good in
    let short = eqb-false (length name) most (and_true_left (not (is_separator c)) (nat_eq (length name) most) (not_from_false (is_separator c) apart) parts.1) in
    let longer = length-append name (c ∷ []) in
    omega arith

pub ruleset name_rules = (name_done, name_more, name_short)
