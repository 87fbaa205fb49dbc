-- The number that digits write.
use Rattle.std.proofs.Common.{◌≡◌, ◌≤◌, ◌<◌, ◌+◌, ◌*◌, ◌^◌, ℕ, List, [], ◌∷◌, length, take, get_or, arith, Bool, true, false, refl}
use Rattle.std.specs.Prelude.{◌&&◌, nat_le}
use Rattle.std.specs.Char.{digit_value}
use Rattle.std.specs.List.{list_all}
use Rattle.std.specs.Str.Parse.{AllDigits, digits_value}
use Rattle.std.proofs.lemmas.Bool.Decides.{nat_tests}
use Rattle.std.proofs.lemmas.Int.Digits.{digits_value_more}
use Rattle.std.proofs.lemmas.Str.{digit_value_digit}
use Rattle.std.proofs.lemmas.Str.Parse.{digits_value_short, digits_value-take-le, numerals_by_value, tells_digits, digit_at}
use Rattle.sheet_text.specs.Script.{is_digit}

pub digit_range : (c : ℕ) → is_digit c ≡ true → (48 ≤ c) × (c ≤ 57)
digit_range c h = go (nat_le 48 c) (nat_le c 57) h (λ low. grind (arith, nat_tests)) (λ high. grind (arith, nat_tests))
  where
    go : (a b : Bool) → (a && b) ≡ true → (a ≡ true → 48 ≤ c) → (b ≡ true → c ≤ 57) → (48 ≤ c) × (c ≤ 57)
    go true true e low high = (low refl, high refl)
    go true false e low high = cc
    go false b e low high = cc

pub are_digits : (bytes : List ℕ) → list_all is_digit bytes ≡ true → AllDigits 10 bytes
are_digits [] h = tt
are_digits (c ∷ cs) h = go (is_digit c) refl h (are_digits cs)
  where
    go : (a : Bool) → is_digit c ≡ a → (a && list_all is_digit cs) ≡ true → (list_all is_digit cs ≡ true → AllDigits 10 cs) → (digit_value c < 10) × AllDigits 10 cs
    go true e h rest = let r = digit_range c e in let v = digit_value_digit c r in (omega (arith, v, r.1), rest h)
    go false e h rest = cc

-- the digit at a place, and the number before it
pub digit_here : (bytes : List ℕ) (i : ℕ) → list_all is_digit bytes ≡ true → i < length bytes → (48 ≤ get_or bytes i 0) × (get_or bytes i 0 ≤ 57)
digit_here bytes i h l = digit_at bytes i (are_digits bytes h) l

pub small_value : (bytes : List ℕ) (i : ℕ) → list_all is_digit bytes ≡ true → length bytes ≤ 10 → digits_value 10 (take i bytes) ≤ 10000000000
small_value bytes i h few =
    let all : digits_value 10 bytes < 10 ^ 10 = digits_value_short (numerals_by_value (AllDigits 10) tells_digits) bytes 10 (are_digits bytes h) few in
    let part = digits_value-take-le 10 bytes i (omega arith) in
    omega (arith, all, part)

pub next_value : (bytes : List ℕ) (i : ℕ) → list_all is_digit bytes ≡ true → i < length bytes → digits_value 10 (take (i + 1) bytes) + 48 ≡ digits_value 10 (take i bytes) * 10 + get_or bytes i 0
next_value bytes i h l =
    let d = digit_value_digit (get_or bytes i 0) (digit_here bytes i h l) in
    let more = digits_value_more 10 bytes i l in
    omega (arith, d, more)

pub ruleset numeral_steps = (digit_here, small_value, next_value)
