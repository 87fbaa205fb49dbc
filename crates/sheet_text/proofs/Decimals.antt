-- A number is what its decimal writes.
use Rattle.std.proofs.Common.{◌≡◌, ◌≤◌, ◌<◌, ℕ, zero, suc, List, [], ◌∷◌, length, get_or, arith, Bool, true, false, refl, ap, sym, ◌∙◌, subst, Some, None}
use Rattle.std.specs.Prelude.{◌↔◌, ◌==◌, ◌&&◌, ◌||◌, not, nat_le, is_some, if◌then◌else◌}
use Rattle.std.specs.Fmt.{decimal}
use Rattle.std.specs.List.{list_all}
use Rattle.std.specs.Str.Parse.{AllDigits, digits_value}
use Rattle.std.proofs.lemmas.Bool.{false≢true}
use Rattle.std.proofs.lemmas.Bool.Decides.{nat_tests}
use Rattle.std.proofs.lemmas.Fmt.{decimal-digits_value, decimal_is_IsNumeral, length-decimal-le, first_decimal, decimal_digit}
use Rattle.std.proofs.lemmas.Str.Parse.{numerals_by_value, tells_digits, digit_from_value}
use Rattle.sheet_text.specs.Script.{greatest_number, most_digits, is_digit, is_numeral, number_written, starts_with_zero}
use Rattle.sheet_text.proofs.Numerals.{are_digits}

all_four : (a b c d : Bool) → (a && b && c && d) ≡ true → (a ≡ true) × (b ≡ true) × (c ≡ true) × (d ≡ true)
all_four true true true true h = (refl, refl, refl, refl)
all_four true true true false h = absurd (false≢true h)
all_four true true false d h = absurd (false≢true h)
all_four true false c d h = absurd (false≢true h)
all_four false b c d h = absurd (false≢true h)

lead_alone : (bytes : List ℕ) → 0 < length bytes → (not (starts_with_zero bytes) || (length bytes == 1)) ≡ true → get_or bytes 0 0 ≡ 48 → length bytes ≡ 1
lead_alone [] some h e = absurd (omega (arith, some))
lead_alone (c ∷ cs) some h e =
    let zero_first : c ≡ 48 = e in
    let alone : (length (c ∷ cs) == 1) ≡ true = rw zero_first at h in
    grind (arith, nat_tests)

none_some : (n : ℕ) → None ≡ Some n → ⊥
none_some n h = false≢true (ap is_some h)

pub number_is_decimal : (bytes : List ℕ) (n : ℕ) → number_written bytes ≡ Some n → (n ≤ greatest_number) × (bytes ≡ decimal n)
number_is_decimal bytes n h = go (is_numeral bytes) (nat_le v greatest_number) refl h (λ small. grind (arith, nat_tests))
  where
    v : ℕ
    v = digits_value 10 bytes

    go : (a b : Bool) → is_numeral bytes ≡ a → (if a && b then Some v else None) ≡ Some n → (b ≡ true → v ≤ greatest_number) → (n ≤ greatest_number) × (bytes ≡ decimal n)
    go true true e k small =
        let parts = all_four (nat_le 1 (length bytes)) (nat_le (length bytes) most_digits) (list_all is_digit bytes) (not (starts_with_zero bytes) || (length bytes == 1)) e in
        let is : v ≡ n = cc in
        let fits = small refl in
        let one : nat_le 1 (length bytes) ≡ true = parts.0 in
        let some : 0 < length bytes = grind (arith, nat_tests) in
        let so = decimal-digits_value (numerals_by_value (AllDigits 10) tells_digits) bytes (are_digits bytes parts.2) some (lead_alone bytes some parts.3) (omega (arith, fits)) in
        (subst (λ m. m ≤ greatest_number) is fits, sym so ∙ ap decimal is)
    go true false e k small = absurd (none_some n k)
    go false b e k small = absurd (none_some n k)

all_digits : (bytes : List ℕ) → AllDigits 10 bytes → list_all is_digit bytes ≡ true
all_digits [] d = refl
all_digits (c ∷ cs) d =
    let r = digit_from_value c d.0 in
    let low : nat_le 48 c ≡ true = grind (arith, nat_tests, r) in
    let high : nat_le c 57 ≡ true = grind (arith, nat_tests, r) in
    rw (low, high, all_digits cs d.1) refl

no_zero_first : (bytes : List ℕ) → 48 < get_or bytes 0 0 → starts_with_zero bytes ≡ false
no_zero_first [] h = refl
no_zero_first (c ∷ cs) h = grind (arith, nat_tests)

pub decimal_is_number : (n : ℕ) → n ≤ greatest_number → number_written (decimal n) ≡ Some n
decimal_is_number n h =
    let k = decimal_is_IsNumeral n (omega (arith, h)) in
    let few = length-decimal-le 10 n (omega arith) (omega (arith, h)) (omega (arith, h)) in
    let some : nat_le 1 (length (decimal n)) ≡ true = grind (arith, nat_tests) in
    let short : nat_le (length (decimal n)) most_digits ≡ true = grind (arith, nat_tests) in
    let small : nat_le n greatest_number ≡ true = grind (arith, nat_tests) in
    rw (some, short, all_digits (decimal n) k.0.1, lead n h, k.1, small) refl
  where
    lead : (n : ℕ) → n ≤ greatest_number → (not (starts_with_zero (decimal n)) || (length (decimal n) == 1)) ≡ true
    lead zero h = rw (decimal_digit 0 (omega arith)) refl
    lead (suc m) h = rw (no_zero_first (decimal (suc m)) (first_decimal (suc m) (omega arith) (omega (arith, h)))) refl

pub numbers_decimals : (bytes : List ℕ) (n : ℕ) → (number_written bytes ≡ Some n) ↔ ((n ≤ greatest_number) × (bytes ≡ decimal n))
numbers_decimals bytes n = (number_is_decimal bytes n, λ p. ap number_written p.1 ∙ decimal_is_number n p.0)
