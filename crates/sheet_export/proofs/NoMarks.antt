-- Texts of a page have no marks.
use Rattle.std.proofs.Common.{◌≡◌, ℕ, ◌+◌, ◌-◌, ◌/◌, ◌%◌, Bool, true, false, cond, List, [], ◌∷◌, ◌++◌, refl, ap, ◌∙◌, arith}
use Rattle.std.specs.Prelude.{◌==◌, ◌&&◌, not, nat_lt}
use Rattle.std.specs.List.{list_all}
use Rattle.std.proofs.lemmas.List.Folds.{list_all-append}
use Rattle.std.proofs.lemmas.Bool.Decides.{nat_tests}
use Rattle.sheet_text.specs.Escape.{hex, is_plain, escaped_byte}
use Rattle.sheet_export.specs.References.{belonging, reference, html_after, html_byte}
use Rattle.sheet_export.specs.Laws.{has_references_alone, is_mark, TextsHaveNoMarks}

abbrev pub passes : ℕ → Bool
passes byte = not (is_mark byte)

unmarked : (n : ℕ) → (n == 60) ≡ false → (n == 62) ≡ false → (n == 34) ≡ false → (n == 39) ≡ false → passes n ≡ true
unmarked n a b c d = rw (a, b, c, d) refl

hex_passes : (n : ℕ) → passes (hex n) ≡ true
hex_passes n = go (nat_lt n 10) refl
  where
    go : (b : Bool) → nat_lt n 10 ≡ b → passes (hex n) ≡ true
    go true e = ap (λ t. passes (cond t (48 + n) (87 + n))) e ∙ unmarked (48 + n) (grind (arith, nat_tests)) (grind (arith, nat_tests)) (grind (arith, nat_tests)) (grind (arith, nat_tests))
    go false e = ap (λ t. passes (cond t (48 + n) (87 + n))) e ∙ unmarked (87 + n) (grind (arith, nat_tests)) (grind (arith, nat_tests)) (grind (arith, nat_tests)) (grind (arith, nat_tests))

both : (a b : Bool) → a ≡ true → b ≡ true → (a && b) ≡ true
both a b p q = rw (p, q) refl

escaped_passes : (b : ℕ) → list_all passes (escaped_byte b) ≡ true
escaped_passes b = both (passes (hex (b / 16))) (passes (hex (b % 16)) && true) (hex_passes (b / 16)) (both (passes (hex (b % 16))) true (hex_passes (b % 16)) refl)

reference_passes : (b : ℕ) → list_all passes (reference b) ≡ true
reference_passes b = amp (b == 38) refl
  where
    last : (b == 38) ≡ false → (b == 60) ≡ false → (b == 62) ≡ false → (b == 34) ≡ false → (t : Bool) → (b == 39) ≡ t → list_all passes (reference b) ≡ true
    last p q r s true e = rw (p, q, r, s, e) refl
    last p q r s false e =
        let itself : reference b ≡ b ∷ [] = rw (p, q, r, s, e) refl in
        ap (list_all passes) itself ∙ both (passes b) true (unmarked b q r s e) refl

    quote : (b == 38) ≡ false → (b == 60) ≡ false → (b == 62) ≡ false → (t : Bool) → (b == 34) ≡ t → list_all passes (reference b) ≡ true
    quote p q r true e = rw (p, q, r, e) refl
    quote p q r false e = last p q r e (b == 39) refl

    greater : (b == 38) ≡ false → (b == 60) ≡ false → (t : Bool) → (b == 62) ≡ t → list_all passes (reference b) ≡ true
    greater p q true e = rw (p, q, e) refl
    greater p q false e = quote p q e (b == 34) refl

    less : (b == 38) ≡ false → (t : Bool) → (b == 60) ≡ t → list_all passes (reference b) ≡ true
    less p true e = rw (p, e) refl
    less p false e = greater p e (b == 62) refl

    amp : (t : Bool) → (b == 38) ≡ t → list_all passes (reference b) ≡ true
    amp true e = rw e refl
    amp false e = less e (b == 60) refl

byte_passes : (keeps_lines belongs : Bool) (b : ℕ) → list_all passes (html_byte keeps_lines belongs b) ≡ true
byte_passes keeps_lines belongs b = go (belongs && is_plain keeps_lines b)
  where
    go : (t : Bool) → list_all passes (cond t (reference b) (escaped_byte b)) ≡ true
    go true = reference_passes b
    go false = escaped_passes b

pub unmarked_text : (keeps_lines : Bool) (left : ℕ) (bytes : List ℕ) → list_all passes (html_after keeps_lines left bytes) ≡ true
unfolding html_after
unmarked_text keeps_lines left [] = refl
unmarked_text keeps_lines left (b ∷ bytes) =
    let n = belonging left (b ∷ bytes) in
    list_all-append passes (html_byte keeps_lines (nat_lt 0 n) b) (html_after keeps_lines (n - 1) bytes)
    ∙ both (list_all passes (html_byte keeps_lines (nat_lt 0 n) b)) (list_all passes (html_after keeps_lines (n - 1) bytes)) (byte_passes keeps_lines (nat_lt 0 n) b) (unmarked_text keeps_lines (n - 1) bytes)

-- References.

hex_and : (n : ℕ) → (hex n == 38) ≡ false
hex_and n = go (nat_lt n 10) refl
  where
    go : (b : Bool) → nat_lt n 10 ≡ b → (hex n == 38) ≡ false
    go true e = ap (λ t. cond t (48 + n) (87 + n) == 38) e ∙ grind (arith, nat_tests)
    go false e = ap (λ t. cond t (48 + n) (87 + n) == 38) e ∙ grind (arith, nat_tests)

escaped_keeps : (b : ℕ) (rest : List ℕ) → has_references_alone (escaped_byte b ++ rest) ≡ has_references_alone rest
escaped_keeps b rest = rw (hex_and (b / 16), hex_and (b % 16)) refl

reference_keeps : (b : ℕ) (rest : List ℕ) → has_references_alone (reference b ++ rest) ≡ has_references_alone rest
reference_keeps b rest = amp (b == 38) refl
  where
    last : (b == 38) ≡ false → (b == 60) ≡ false → (b == 62) ≡ false → (b == 34) ≡ false → (t : Bool) → (b == 39) ≡ t → has_references_alone (reference b ++ rest) ≡ has_references_alone rest
    last p q r s true e = rw (p, q, r, s, e) refl
    last p q r s false e =
        let itself : reference b ≡ b ∷ [] = rw (p, q, r, s, e) refl in
        ap (λ f. has_references_alone (f ++ rest)) itself ∙ (rw p refl)

    quote : (b == 38) ≡ false → (b == 60) ≡ false → (b == 62) ≡ false → (t : Bool) → (b == 34) ≡ t → has_references_alone (reference b ++ rest) ≡ has_references_alone rest
    quote p q r true e = rw (p, q, r, e) refl
    quote p q r false e = last p q r e (b == 39) refl

    greater : (b == 38) ≡ false → (b == 60) ≡ false → (t : Bool) → (b == 62) ≡ t → has_references_alone (reference b ++ rest) ≡ has_references_alone rest
    greater p q true e = rw (p, q, e) refl
    greater p q false e = quote p q e (b == 34) refl

    less : (b == 38) ≡ false → (t : Bool) → (b == 60) ≡ t → has_references_alone (reference b ++ rest) ≡ has_references_alone rest
    less p true e = rw (p, e) refl
    less p false e = greater p e (b == 62) refl

    amp : (t : Bool) → (b == 38) ≡ t → has_references_alone (reference b ++ rest) ≡ has_references_alone rest
    amp true e = rw e refl
    amp false e = less e (b == 60) refl

byte_keeps : (keeps_lines belongs : Bool) (b : ℕ) (rest : List ℕ) → has_references_alone (html_byte keeps_lines belongs b ++ rest) ≡ has_references_alone rest
byte_keeps keeps_lines belongs b rest = go (belongs && is_plain keeps_lines b)
  where
    go : (t : Bool) → has_references_alone (cond t (reference b) (escaped_byte b) ++ rest) ≡ has_references_alone rest
    go true = reference_keeps b rest
    go false = escaped_keeps b rest

referenced_text : (keeps_lines : Bool) (left : ℕ) (bytes : List ℕ) → has_references_alone (html_after keeps_lines left bytes) ≡ true
unfolding html_after
referenced_text keeps_lines left [] = refl
referenced_text keeps_lines left (b ∷ bytes) =
    let n = belonging left (b ∷ bytes) in
    byte_keeps keeps_lines (nat_lt 0 n) b (html_after keeps_lines (n - 1) bytes) ∙ referenced_text keeps_lines (n - 1) bytes

pub no_marks : TextsHaveNoMarks
no_marks keeps_lines bytes = (unmarked_text keeps_lines 0 bytes, referenced_text keeps_lines 0 bytes)
