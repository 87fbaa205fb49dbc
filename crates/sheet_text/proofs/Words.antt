-- The parts between spaces, taken one at a time.
use Rattle.std.proofs.Common.{◌≡◌, ◌≤◌, ◌<◌, ◌+◌, ℕ, List, [], ◌∷◌, ◌++◌, length, arith, Bool, true, false, refl, ap, sym, ◌∙◌, append_assoc, Some, None}
use Rattle.std.specs.Prelude.{nat_lt}
use Rattle.std.specs.List.{position_or_len, slice_split, onto_first, after_first}
use Rattle.std.proofs.lemmas.Bool.Decides.{nat_tests}
use Rattle.std.proofs.lemmas.List.{take_all, length-drop}
use Rattle.std.proofs.lemmas.List.Splits.{slice_split_first}
use Rattle.sheet_text.specs.Script.{is_space, before_space, after_space}

none_left : (bytes : List ℕ) → length bytes ≤ position_or_len is_space bytes → slice_split is_space bytes ≡ bytes ∷ []
none_left [] h = refl
none_left (x ∷ xs) h = go (is_space x) refl (none_left xs)
  where
    go : (b : Bool) → is_space x ≡ b → (length xs ≤ position_or_len is_space xs → slice_split is_space xs ≡ xs ∷ []) → slice_split is_space (x ∷ xs) ≡ (x ∷ xs) ∷ []
    go true e rest = let none : position_or_len is_space (x ∷ xs) ≡ 0 = rw e refl in absurd (omega (arith, none, h))
    go false e rest =
        let more : position_or_len is_space (x ∷ xs) ≡ 1 + position_or_len is_space xs = rw e refl in
        let cut : slice_split is_space (x ∷ xs) ≡ onto_first x (slice_split is_space xs) = rw e refl in
        cut ∙ ap (onto_first x) (rest (omega (arith, more, h)))

none_after : (bytes : List ℕ) → after_space bytes ≡ None → length bytes ≤ position_or_len is_space bytes
none_after bytes h = go (nat_lt (position_or_len is_space bytes) (length bytes)) refl (λ less. grind (arith, nat_tests))
  where
    go : (b : Bool) → nat_lt (position_or_len is_space bytes) (length bytes) ≡ b → (b ≡ false → length bytes ≤ position_or_len is_space bytes) → length bytes ≤ position_or_len is_space bytes
    go true e less = let is : Some (after_first is_space bytes) ≡ None = rw e at h in cc
    go false e less = less refl

some_after : (bytes others : List ℕ) → after_space bytes ≡ Some others → (position_or_len is_space bytes < length bytes) × (others ≡ after_first is_space bytes)
some_after bytes others h = go (nat_lt (position_or_len is_space bytes) (length bytes)) refl (λ less. grind (arith, nat_tests))
  where
    go : (b : Bool) → nat_lt (position_or_len is_space bytes) (length bytes) ≡ b → (b ≡ true → position_or_len is_space bytes < length bytes) → (position_or_len is_space bytes < length bytes) × (others ≡ after_first is_space bytes)
    go true e less = let is : Some (after_first is_space bytes) ≡ Some others = rw e at h in (less refl, cc)
    go false e less = let is : None ≡ Some others = rw e at h in cc

-- the first part is taken
pub part_taken : (words : List (List ℕ)) (rest others all : List ℕ) → words ++ slice_split is_space rest ≡ slice_split is_space all → after_space rest ≡ Some others
    → (words ++ before_space rest ∷ []) ++ slice_split is_space others ≡ slice_split is_space all
part_taken words rest others all h e =
    let p = some_after rest others e in
    append_assoc words (before_space rest ∷ []) (slice_split is_space others)
    ∙ ap (λ k. words ++ before_space rest ∷ slice_split is_space k) p.1
    ∙ ap (λ parts. words ++ parts) (sym (slice_split_first is_space rest 0 p.0))
    ∙ h

-- the last part is taken
pub parts_taken : (words : List (List ℕ)) (rest all : List ℕ) → words ++ slice_split is_space rest ≡ slice_split is_space all → after_space rest ≡ None
    → words ++ before_space rest ∷ [] ≡ slice_split is_space all
parts_taken words rest all h e =
    let none = none_after rest e in
    ap (λ part. words ++ part ∷ []) (take_all (position_or_len is_space rest) rest none)
    ∙ ap (λ parts. words ++ parts) (sym (none_left rest none))
    ∙ h

pub fewer_after : (rest others : List ℕ) → after_space rest ≡ Some others → length others < length rest
fewer_after rest others e =
    let p = some_after rest others e in
    let n = ap length p.1 in
    omega (arith, n, p.0, length-drop (position_or_len is_space rest + 1) rest)

pub ruleset word_steps = (part_taken, parts_taken, fewer_after)
