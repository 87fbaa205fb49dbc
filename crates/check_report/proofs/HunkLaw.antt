-- Both texts have the same lines around what differs.
use Rattle.std.proofs.Common.{◌≡◌, ℕ, zero, suc, ◌+◌, ◌-◌, ◌≤◌, Bool, true, false, List, [], ◌∷◌, ◌++◌, arith, length, length-drop, drop, take, reverse, refl, ap, sym, ◌∙◌}
use Rattle.std.specs.List.{common_prefix_len}
use Rattle.std.specs.Str.{bytes_eq}
use Rattle.std.proofs.lemmas.List.{drop-drop, length-reverse, reverse-append, reverse-reverse, take-append-drop, take_at}
use Rattle.std.proofs.lemmas.List.Sums.{common_prefix_len-le}
use Rattle.std.proofs.lemmas.Slice.Eq.{bytes_eq-Decides}
use Rattle.check_report.specs.Hunks.{back_of, front_of}
use Rattle.check_report.specs.Laws.{HunksTurnOneIntoTheOther}

same_front : (xs ys : List (List ℕ)) (k : ℕ) → k ≤ common_prefix_len bytes_eq xs ys → take k xs ≡ take k ys
same_front xs ys zero h = refl
same_front [] ys (suc k) h = absurd (omega (arith, h))
same_front (x ∷ xs) [] (suc k) h = absurd (omega (arith, h))
same_front (x ∷ xs) (y ∷ ys) (suc k) h = go (bytes_eq x y) refl (same_front xs ys k)
  where
    go : (b : Bool) → bytes_eq x y ≡ b → (k ≤ common_prefix_len bytes_eq xs ys → take k xs ≡ take k ys) → x ∷ take k xs ≡ y ∷ take k ys
    go true e rest =
        let more : suc k ≤ 1 + common_prefix_len bytes_eq xs ys = rw e at h in
        let same = (bytes_eq-Decides x y).0 e in
        ap (λ z. z ∷ take k xs) same ∙ ap (λ t. y ∷ t) (rest (omega (arith, more)))
    go false e rest = let none : suc k ≤ 0 = rw e at h in absurd (omega (arith, none))

-- the last of them, by the first of those turned round
last-lines : (xs : List (List ℕ)) (k : ℕ) → k ≤ length xs → drop (length xs - k) xs ≡ reverse (take k (reverse xs))
last-lines xs k h =
    let n = length xs - k in
    let long : length (reverse (drop n xs)) ≡ k = omega (arith, length-reverse (drop n xs), length-drop n xs, h) in
    let turned : reverse xs ≡ reverse (drop n xs) ++ reverse (take n xs) = ap reverse (sym (take-append-drop n xs)) ∙ reverse-append (take n xs) (drop n xs) in
    sym (ap reverse (ap (take k) turned ∙ take_at (reverse (drop n xs)) (reverse (take n xs)) k long) ∙ reverse-reverse (drop n xs))

same_back : (xs ys : List (List ℕ)) (k : ℕ) → k ≤ length xs → k ≤ length ys → k ≤ common_prefix_len bytes_eq (reverse xs) (reverse ys) → drop (length xs - k) xs ≡ drop (length ys - k) ys
same_back xs ys k p q h = last-lines xs k p ∙ ap reverse (same_front (reverse xs) (reverse ys) k h) ∙ sym (last-lines ys k q)

in-three : (xs : List (List ℕ)) (f b : ℕ) → f + b ≤ length xs → take f xs ++ (take (length xs - b - f) (drop f xs) ++ drop (length xs - b) xs) ≡ xs
in-three xs f b h =
    let n = length xs - b - f in
    let at : f + n ≡ length xs - b = omega (arith, h) in
    let rest = sym (drop-drop n f xs ∙ ap (λ k. drop k xs) at) in
    ap (λ t. take f xs ++ t) (ap (λ t. take n (drop f xs) ++ t) rest ∙ take-append-drop n (drop f xs)) ∙ take-append-drop f xs

pub hunks_turn : HunksTurnOneIntoTheOther
hunks_turn old new =
    let f = front_of old new in
    let b = back_of old new in
    let fits = common_prefix_len-le bytes_eq old new in
    let olds : f + b ≤ length old = omega (arith, fits.0, fits.1) in
    let news : f + b ≤ length new = omega (arith, fits.0, fits.1) in
    let front : take f old ≡ take f new = same_front old new f (omega arith) in
    let back : drop (length old - b) old ≡ drop (length new - b) new = same_back old new b (omega (arith, olds)) (omega (arith, news)) (omega arith) in
    let between = take (length new - b - f) (drop f new) in
    (in-three old f b olds, ap (λ t. t ++ (between ++ drop (length old - b) old)) front ∙ ap (λ t. take f new ++ (between ++ t)) back ∙ in-three new f b news)
