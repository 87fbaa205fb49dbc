-- Runs of lines: those that two lists begin with, and so many of them that are written or passed over.
use Rattle.std.proofs.Common.{◌≡◌, ℕ, zero, suc, ◌+◌, ◌-◌, ◌<◌, ◌≤◌, List, [], ◌∷◌, ◌++◌, arith, length, drop, map, min, take, reverse, refl, ap, sym, ◌∙◌, Option, flat_map}
use Rattle.std.specs.Io.KnownBytes.{Appends}
use Rattle.std.specs.List.{common_prefix_len}
use Rattle.std.specs.Str.{bytes_eq}
use Rattle.std.proofs.lemmas.List.{map-append, reverse-append}
use Rattle.check_report.proofs.Marking.{Marked, one_marked, rest_marked}

common_none : (xs : List (List ℕ)) → common_prefix_len bytes_eq xs [] ≡ 0
common_none [] = refl
common_none (x ∷ xs) = refl

common_past : (xs ys : List (List ℕ)) (k : ℕ) → min (length xs) (length ys) ≤ k → common_prefix_len bytes_eq (drop k xs) (drop k ys) ≡ 0
common_past [] ys zero h = refl
common_past [] ys (suc k) h = refl
common_past (x ∷ xs) [] zero h = refl
common_past (x ∷ xs) [] (suc k) h = common_none (drop k xs)
common_past (x ∷ xs) (y ∷ ys) zero h = absurd (omega (arith, h))
common_past (x ∷ xs) (y ∷ ys) (suc k) h = common_past xs ys k (omega (arith, h))

-- all were looked at, up to the end of the shorter list
pub common_all : (xs ys : List (List ℕ)) (k all : ℕ) → min (length xs) (length ys) ≤ k → k + common_prefix_len bytes_eq (drop k xs) (drop k ys) ≡ all → k ≡ all
common_all xs ys k all h e = let none = common_past xs ys k h in omega (arith, none, e)

pub map-reverse : {X Y : Type 0} (f : X → Y) (xs : List X) → map f (reverse xs) ≡ reverse (map f xs)
map-reverse f [] = refl
map-reverse f (x ∷ xs) = ap (map f) (reverse-append (x ∷ []) xs) ∙ map-append f (reverse xs) (x ∷ []) ∙ ap (λ t. t ++ f x ∷ []) (map-reverse f xs) ∙ sym (reverse-append (f x ∷ []) (map f xs))

drop_none : (k : ℕ) → drop {A = List ℕ} k [] ≡ []
drop_none zero = refl
drop_none (suc k) = refl

take_none : (k : ℕ) → take {A = List ℕ} k [] ≡ []
take_none zero = refl
take_none (suc k) = refl

pub drop_next : (left : ℕ) (rest others : List (List ℕ)) (line : List ℕ) → 0 < left → rest ≡ line ∷ others → drop (left - 1) others ≡ drop left rest
drop_next zero rest others line h e = absurd (omega (arith, h))
drop_next (suc left) rest others line h e = let is : suc left - 1 ≡ left = omega arith in ap (λ k. drop k others) is ∙ ap (drop (suc left)) (sym e)

pub drop_ended : (left : ℕ) (rest all : List (List ℕ)) → rest ≡ [] → drop left rest ≡ all → rest ≡ all
drop_ended left rest all e h = e ∙ sym (drop_none left) ∙ ap (drop left) (sym e) ∙ h

pub drop_done : (left : ℕ) (rest all : List (List ℕ)) → left ≡ 0 → drop left rest ≡ all → rest ≡ all
drop_done left rest all e h = ap (λ k. drop k rest) (sym e) ∙ h

take_next : (left : ℕ) (rest others : List (List ℕ)) (line : List ℕ) → 0 < left → rest ≡ line ∷ others → take left rest ≡ line ∷ take (left - 1) others
take_next zero rest others line h e = absurd (omega (arith, h))
take_next (suc left) rest others line h e = let is : left ≡ suc left - 1 = omega arith in ap (take (suc left)) e ∙ ap (λ k. line ∷ take k others) is

pub next_marked : (mark : List ℕ) (a b c d : Option (List ℕ)) (left : ℕ) (rest : List (List ℕ)) (line : List ℕ) (others all : List (List ℕ)) → 0 < left → rest ≡ line ∷ others → Marked mark a b (take left rest) all
    → Appends b c mark → Appends c d line → Marked mark a d (take (left - 1) others) all
next_marked mark a b c d left rest line others all h e m p q = one_marked mark a b c d (take left rest) line (take (left - 1) others) all (take_next left rest others line h e) m p q

pub run_ended : (mark : List ℕ) (a b : Option (List ℕ)) (left : ℕ) (rest all : List (List ℕ)) → rest ≡ [] → Marked mark a b (take left rest) all → Appends a b (flat_map (λ line. mark ++ line) all)
run_ended mark a b left rest all e m = rest_marked mark a b (take left rest) all (ap (take left) e ∙ take_none left) m

pub run_done : (mark : List ℕ) (a b : Option (List ℕ)) (left : ℕ) (rest all : List (List ℕ)) → left ≡ 0 → Marked mark a b (take left rest) all → Appends a b (flat_map (λ line. mark ++ line) all)
run_done mark a b left rest all e m = rest_marked mark a b (take left rest) all (ap (λ k. take k rest) e) m

pub ruleset pass_steps = (drop_next, drop_ended, drop_done)

pub ruleset run_steps = (next_marked, run_ended, run_done)
