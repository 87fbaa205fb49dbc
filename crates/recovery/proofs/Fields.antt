-- What was written is read again, part by part.
use Rattle.std.proofs.Common.{◌≡◌, ℕ, false, ltb, List, [], ◌∷◌, ◌++◌, length, Some, refl, append-nil, arith}
use Rattle.std.specs.Int.{w16, to_be_bytes}
use Rattle.std.specs.List.{flat_map, AllByRecursion}
use Rattle.std.proofs.lemmas.Bool.{le-ltb}
use Rattle.std.proofs.lemmas.List.{take_at, drop_at, length-append}
use Rattle.std.proofs.lemmas.Nat.{from_be_bytes-to_be_bytes_2, from_be_bytes-to_be_bytes_4}
use Rattle.recovery.specs.Code.{number, short, long, IsLong, IsNumber}
use Rattle.recovery.specs.inside.Reading.{front_at, number_at, last_number_at, short_at, long_at, last_long_at, words_at}

pub front_again : (n : ℕ) (a rest : List ℕ) → length a ≡ n → front_at n (a ++ rest) ≡ Some (a, rest)
front_again n a rest len =
    let enough : ltb (length (a ++ rest)) n ≡ false = le-ltb _ _ (omega (arith, length-append a rest)) in
    rw (enough, take_at a rest n len, drop_at a rest n len) refl

pub number_again : (n : ℕ) (rest : List ℕ) → IsNumber n → number_at (number n ++ rest) ≡ Some (n, rest)
unfolding number_at
number_again n rest lt = rw (front_again 4 (number n) rest refl, from_be_bytes-to_be_bytes_4 n lt) refl

pub short_again : (a rest : List ℕ) → short_at (short a ++ rest) ≡ Some (a, rest)
unfolding short_at
short_again a rest = front_again (length a) a rest refl

pub long_again : (a rest : List ℕ) → IsLong a → long_at (long a ++ rest) ≡ Some (a, rest)
unfolding long_at
long_again a rest lt = rw (front_again 2 (to_be_bytes w16 (length a)) (a ++ rest) refl, from_be_bytes-to_be_bytes_2 (length a) lt, front_again (length a) a rest refl) refl

pub last_number_again : (n : ℕ) → IsNumber n → last_number_at (number n) ≡ Some n
unfolding last_number_at
last_number_again n lt = rw (number_again n [] lt) refl

pub last_long_again : (a : List ℕ) → IsLong a → last_long_at (long a) ≡ Some a
unfolding last_long_at
last_long_again a lt =
    let whole : long a ++ [] ≡ long a = append-nil (long a) in
    rw (← whole, long_again a [] lt) refl

pub words_again : (ws : List (List ℕ)) → AllByRecursion IsLong ws → words_at (length ws) (flat_map long ws) ≡ Some ws
unfolding words_at
words_again [] all = refl
words_again (w ∷ ws) all = rw (long_again w (flat_map long ws) all.0, words_again ws all.1) refl
