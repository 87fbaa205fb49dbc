-- Reading words one after another, as a loop does.
use Rattle.std.proofs.Common.{◌≡◌, ℕ, suc, ◌-◌, ◌+◌, ◌≤◌, ◌<◌, List, [], ◌∷◌, ◌++◌, Option, Some, None, refl, sym, ap, ◌∙◌, append_assoc, append-nil, arith}
use Rattle.std.specs.List.{AllByRecursion}
use Rattle.recovery.specs.Code.{IsLong}
use Rattle.recovery.specs.inside.Reading.{◌>>=◌, long_at, words_at}

-- what was read before, and what is still read
abbrev pub with_front : List (List ℕ) → Option (List (List ℕ)) → Option (List (List ℕ))
with_front front read = read >>= λ x. Some (front ++ x)

regroup : (front : List (List ℕ)) (w : List ℕ) (read : Option (List (List ℕ))) → with_front front (read >>= λ x. Some (w ∷ x)) ≡ with_front (front ++ w ∷ []) read
regroup front w (Some x) = ap (λ (ws : List (List ℕ)). Some ws) (simp append_assoc)
regroup front w None = refl

pub goes_on : (front : List (List ℕ)) (count i : ℕ) (bytes w after : List ℕ) (total : Option (List (List ℕ))) → i < count → long_at bytes ≡ Some (w, after)
    → with_front front (words_at (count - i) bytes) ≡ total → with_front (front ++ w ∷ []) (words_at (count - (i + 1)) after) ≡ total
unfolding words_at
goes_on front count i bytes w after total lt h so_far =
    let k : count - i ≡ suc (count - (i + 1)) = omega arith in
    let one : with_front front (words_at (count - i) bytes) ≡ with_front (front ++ w ∷ []) (words_at (count - (i + 1)) after) = rw (k, h) (regroup front w (words_at (count - (i + 1)) after)) in
    sym one ∙ so_far

pub ends : (front : List (List ℕ)) (count i : ℕ) (bytes : List ℕ) (total : Option (List (List ℕ))) → i < count → long_at bytes ≡ None
    → with_front front (words_at (count - i) bytes) ≡ total → total ≡ None
unfolding words_at
ends front count i bytes total lt h so_far =
    let k : count - i ≡ suc (count - (i + 1)) = omega arith in
    let one : with_front front (words_at (count - i) bytes) ≡ None = rw (k, h) refl in
    sym so_far ∙ one

pub is_done : (front : List (List ℕ)) (count i : ℕ) (bytes : List ℕ) (total : Option (List (List ℕ))) → count ≤ i → with_front front (words_at (count - i) bytes) ≡ total → total ≡ Some front
unfolding words_at
is_done front count i bytes total le so_far =
    let k : count - i ≡ 0 = omega arith in
    let one : with_front front (words_at (count - i) bytes) ≡ Some front = rw k (ap (λ (ws : List (List ℕ)). Some ws) (append-nil front)) in
    sym so_far ∙ one

pub long_push : (ws : List (List ℕ)) (w : List ℕ) → AllByRecursion IsLong ws → IsLong w → AllByRecursion IsLong (ws ++ w ∷ [])
long_push [] w all one = (one, tt)
long_push (x ∷ ws) w all one = (all.0, long_push ws w all.1 one)
