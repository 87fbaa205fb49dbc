-- The text of a value stays on its line.
use Rattle.std.proofs.Common.{◌≡◌, ◌≤◌, ◌<◌, ◌^◌, ◌+◌, ℕ, zero, suc, map, ◌/◌, ◌%◌, Bool, true, false, cond, List, [], ◌∷◌, ◌++◌, nat_lt, arith, refl, sym, subst}
use Rattle.std.specs.Char.{digit_char}
use Rattle.std.specs.Fmt.{decimal}
use Rattle.std.specs.Int.Digits.{digits_of}
use Rattle.std.proofs.lemmas.Bool.Decides.{nat_tests}
use Rattle.std.proofs.lemmas.Fmt.{decimal_digit, decimal-digits_of}
use Rattle.json.specs.Print.{escape_byte, escape_letter, escape, quoted}
use Rattle.serde_json.specs.Data.{Data, Items, Members, Num, unsigned, negative, float, null, boolean, number, string, array, object, item, no_items, member, no_members}
use Rattle.serde_json.specs.Written.{compact_text, comma_if, items_text, members_text, number_text}
use Rattle.sheet_json.specs.Lines.{HasCounts, IsCount, IsWithinLine, ItemsHaveCounts, MembersHaveCounts}

within_append : (xs ys : List ℕ) → IsWithinLine xs → IsWithinLine ys → IsWithinLine (xs ++ ys)
within_append [] ys p q = q
within_append (x ∷ xs) ys p q = (p.0, within_append xs ys p.1 q)

letter_within : (x : ℕ) → nat_lt 0 (escape_letter x) ≡ true → 32 ≤ escape_letter x
letter_within x h = grind (arith, nat_tests, h)

digit_within : (d : ℕ) → 32 ≤ digit_char d
digit_within d = grind (arith, nat_tests)

byte_within : (x : ℕ) → IsWithinLine (escape_byte x)
unfolding escape_byte
byte_within x = go (nat_lt 0 (escape_letter x)) (nat_lt x 32) refl refl
  where
    go : (a b : Bool) → nat_lt 0 (escape_letter x) ≡ a → nat_lt x 32 ≡ b
        → IsWithinLine (cond a (92 ∷ escape_letter x ∷ []) (cond b (92 ∷ 117 ∷ 48 ∷ 48 ∷ digit_char (x / 16) ∷ digit_char (x % 16) ∷ []) (x ∷ [])))
    go true b p q = (omega arith, (letter_within x p, tt))
    go false true p q = (omega arith, (omega arith, (omega arith, (omega arith, (digit_within (x / 16), (digit_within (x % 16), tt))))))
    go false false p q = (grind (arith, nat_tests, q), tt)

escape_within : (s : List ℕ) → IsWithinLine (escape s)
escape_within [] = tt
escape_within (x ∷ s) = within_append (escape_byte x) (escape s) (byte_within x) (escape_within s)

quoted_within : (s : List ℕ) → IsWithinLine (quoted s)
quoted_within s = (omega arith, within_append (escape s) (34 ∷ []) (escape_within s) (omega arith, tt))

each_within : (ds : List ℕ) → IsWithinLine (map (λ d. 48 + d) ds)
each_within [] = tt
each_within (d ∷ ds) = (omega arith, each_within ds)

decimal_within : (n : ℕ) → n < 2 ^ 64 → IsWithinLine (decimal n)
decimal_within zero h = subst IsWithinLine (sym (decimal_digit 0 (omega arith))) (omega arith, tt)
decimal_within (suc n) h = subst IsWithinLine (sym (decimal-digits_of (suc n) (omega arith) h)) (each_within (digits_of 10 (suc n)))

number_within : (n : Num) → IsCount n → IsWithinLine (number_text n)
number_within (unsigned n) h = decimal_within n h
number_within (negative z) h = absurd h
number_within (float x) h = absurd h

comma_within : (later : Bool) → IsWithinLine (comma_if later)
comma_within true = (omega arith, tt)
comma_within false = tt

boolean_within : (b : Bool) → IsWithinLine (compact_text (boolean b))
boolean_within true = (omega arith, (omega arith, (omega arith, (omega arith, tt))))
boolean_within false = (omega arith, (omega arith, (omega arith, (omega arith, (omega arith, tt)))))

mutual
  pub text_within : (d : Data) → HasCounts d → IsWithinLine (compact_text d)
  text_within null h = (omega arith, (omega arith, (omega arith, (omega arith, tt))))
  text_within (boolean b) h = boolean_within b
  text_within (number n) h = number_within n h
  text_within (string s) h = quoted_within s
  text_within (array ds) h = (omega arith, items_within false ds h)
  text_within (object ms) h = (omega arith, members_within false ms h)

  items_within : (later : Bool) (ds : Items) → ItemsHaveCounts ds → IsWithinLine (items_text later ds)
  items_within later no_items h = (omega arith, tt)
  items_within later (item d ds) h = within_append (comma_if later) _ (comma_within later) (within_append (compact_text d) _ (text_within d h.0) (items_within true ds h.1))

  members_within : (later : Bool) (ms : Members) → MembersHaveCounts ms → IsWithinLine (members_text later ms)
  members_within later no_members h = (omega arith, tt)
  members_within later (member k d ms) h =
      within_append (comma_if later) _ (comma_within later) (within_append (quoted k) _ (quoted_within k) (omega arith, within_append (compact_text d) _ (text_within d h.0) (members_within true ms h.1)))
