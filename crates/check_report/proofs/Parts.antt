-- The parts between commas, taken one at a time.
use Rattle.std.proofs.Common.{◌≡◌, ◌≤◌, ◌<◌, ◌+◌, ℕ, List, [], ◌∷◌, ◌++◌, length, arith, Bool, true, false, refl, ap, sym, ◌∙◌, append_assoc, Option, Some, None}
use Rattle.std.specs.Prelude.{nat_lt}
use Rattle.std.specs.List.{position_or_len, slice_split, onto_first, before_first, after_first}
use Rattle.std.proofs.lemmas.Bool.Decides.{nat_tests}
use Rattle.std.proofs.lemmas.List.{take_all, length-drop}
use Rattle.std.proofs.lemmas.List.Splits.{slice_split_first}
use Rattle.check_report.specs.declared.chosen.Ids.{Ids}
use Rattle.check_report.specs.IdLists.{following_first, ids_named, is_comma, part_of, id_parts_of, with_others, with_part}

none_left : (bytes : List ℕ) → length bytes ≤ position_or_len is_comma bytes → slice_split is_comma bytes ≡ bytes ∷ []
none_left [] h = refl
none_left (x ∷ xs) h = go (is_comma x) refl (none_left xs)
  where
    go : (b : Bool) → is_comma x ≡ b → (length xs ≤ position_or_len is_comma xs → slice_split is_comma xs ≡ xs ∷ []) → slice_split is_comma (x ∷ xs) ≡ (x ∷ xs) ∷ []
    go true e rest = let none : position_or_len is_comma (x ∷ xs) ≡ 0 = rw e refl in absurd (omega (arith, none, h))
    go false e rest =
        let more : position_or_len is_comma (x ∷ xs) ≡ 1 + position_or_len is_comma xs = rw e refl in
        let cut : slice_split is_comma (x ∷ xs) ≡ onto_first x (slice_split is_comma xs) = rw e refl in
        cut ∙ ap (onto_first x) (rest (omega (arith, more, h)))

none_after : (bytes : List ℕ) → following_first is_comma bytes ≡ None → length bytes ≤ position_or_len is_comma bytes
none_after bytes h = go (nat_lt (position_or_len is_comma bytes) (length bytes)) refl (λ less. grind (arith, nat_tests))
  where
    go : (b : Bool) → nat_lt (position_or_len is_comma bytes) (length bytes) ≡ b → (b ≡ false → length bytes ≤ position_or_len is_comma bytes) → length bytes ≤ position_or_len is_comma bytes
    go true e less = let is : Some (after_first is_comma bytes) ≡ None = rw e at h in cc
    go false e less = less refl

some_after : (bytes others : List ℕ) → following_first is_comma bytes ≡ Some others → (position_or_len is_comma bytes < length bytes) × (others ≡ after_first is_comma bytes)
some_after bytes others h = go (nat_lt (position_or_len is_comma bytes) (length bytes)) refl (λ less. grind (arith, nat_tests))
  where
    go : (b : Bool) → nat_lt (position_or_len is_comma bytes) (length bytes) ≡ b → (b ≡ true → position_or_len is_comma bytes < length bytes)
        → (position_or_len is_comma bytes < length bytes) × (others ≡ after_first is_comma bytes)
    go true e less = let is : Some (after_first is_comma bytes) ≡ Some others = rw e at h in (less refl, cc)
    go false e less = let is : None ≡ Some others = rw e at h in cc

-- the first part, and those after it
split-more : (rest others : List ℕ) → following_first is_comma rest ≡ Some others → slice_split is_comma rest ≡ before_first is_comma rest ∷ slice_split is_comma others
split-more rest others e =
    let p = some_after rest others e in
    slice_split_first is_comma rest 0 p.0 ∙ ap (λ k. before_first is_comma rest ∷ slice_split is_comma k) (sym p.1)

split-last : (rest : List ℕ) → following_first is_comma rest ≡ None → slice_split is_comma rest ≡ before_first is_comma rest ∷ []
split-last rest e =
    let none = none_after rest e in
    none_left rest none ∙ ap (λ part. part ∷ []) (sym (take_all (position_or_len is_comma rest) rest none))

others-of : (ids : List Ids) (one : Ids) (more : Option (List Ids)) → with_others ids (with_others (one ∷ []) more) ≡ with_others (ids ++ one ∷ []) more
others-of ids one None = refl
others-of ids one (Some more) = ap Some (sym (append_assoc ids (one ∷ []) more))

-- the first part is taken
pub part_taken : (ids : List Ids) (one : Ids) (rest others all : List ℕ) → with_others ids (ids_named rest) ≡ ids_named all → part_of (before_first is_comma rest) ≡ Some one → following_first is_comma rest ≡ Some others
    → with_others (ids ++ one ∷ []) (ids_named others) ≡ ids_named all
part_taken ids one rest others all h p e =
    sym (others-of ids one (ids_named others)) ∙ ap (λ o. with_others ids (with_part o (ids_named others))) (sym p) ∙ ap (λ ps. with_others ids (id_parts_of ps)) (sym (split-more rest others e)) ∙ h

-- the last part is taken
pub parts_taken : (ids : List Ids) (one : Ids) (rest all : List ℕ) → with_others ids (ids_named rest) ≡ ids_named all → part_of (before_first is_comma rest) ≡ Some one → following_first is_comma rest ≡ None
    → Some (ids ++ one ∷ []) ≡ ids_named all
parts_taken ids one rest all h p e =
    ap (λ o. with_others ids (with_part o (Some []))) (sym p) ∙ ap (λ ps. with_others ids (id_parts_of ps)) (sym (split-last rest e)) ∙ h

first-part : (rest : List ℕ) → (parts : List (List ℕ)) × (slice_split is_comma rest ≡ before_first is_comma rest ∷ parts)
first-part rest = go (following_first is_comma rest) refl
  where
    go : (o : Option (List ℕ)) → following_first is_comma rest ≡ o → (parts : List (List ℕ)) × (slice_split is_comma rest ≡ before_first is_comma rest ∷ parts)
    go None e = ([], split-last rest e)
    go (Some others) e = (slice_split is_comma others, split-more rest others e)

-- a part has another form
pub part_refused : (ids : List Ids) (rest all : List ℕ) → with_others ids (ids_named rest) ≡ ids_named all → part_of (before_first is_comma rest) ≡ None → None ≡ ids_named all
part_refused ids rest all h p =
    let f = first-part rest in
    ap (λ o. with_others ids (with_part o (id_parts_of f.0))) (sym p) ∙ ap (λ ps. with_others ids (id_parts_of ps)) (sym f.1) ∙ h

pub fewer_after : (rest others : List ℕ) → following_first is_comma rest ≡ Some others → length others < length rest
fewer_after rest others e =
    let p = some_after rest others e in
    let n = ap length p.1 in
    omega (arith, n, p.0, length-drop (position_or_len is_comma rest + 1) rest)

pub ruleset part_steps = (part_taken, parts_taken, part_refused, fewer_after)
