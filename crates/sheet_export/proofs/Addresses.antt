-- What stands in the address of a picture is base64 alone.
use Rattle.std.proofs.Common.{◌≡◌, ℕ, ◌+◌, ◌-◌, ◌*◌, ◌/◌, ◌%◌, Bool, true, false, cond, List, [], ◌∷◌, Option, Some, None, refl, ap, sym, subst, arith, codes}
use Rattle.std.specs.Prelude.{◌==◌, ◌&&◌, ◌||◌, if◌then◌else◌, is_some, nat_eq, nat_le, nat_lt, unwrap_or}
use Rattle.std.specs.List.{list_all, starts_with}
use Rattle.std.specs.Str.{bytes_eq}
use Rattle.std.proofs.lemmas.Bool.{true≢false}
use Rattle.std.proofs.lemmas.Bool.Decides.{nat_tests}
use Rattle.sheet_notebook.specs.Laws.{Base64IsItsAlone}
use Rattle.sheet_notebook.specs.Pictures.{is_base64, is_base64_byte, is_base64_of, is_svg, is_within, jpeg_magic, png_magic}
use Rattle.sheet_notebook.specs.declared.pictures.PictureKind.{PictureKind}
use Rattle.sheet_notebook.specs.declared.pictures.PictureKind.TheVariants as kind
use Rattle.sheet_export.specs.Laws.{PicturesAreBase64}
use Rattle.sheet_export.specs.Pictures.{image_data, in_base64, symbol_of}

both : (a b : Bool) → a ≡ true → b ≡ true → (a && b) ≡ true
both true b p q = q
both false b p q = absurd (true≢false (sym p))

within : (first last byte : ℕ) → nat_le first byte ≡ true → nat_le byte last ≡ true → is_within first last byte ≡ true
within first last byte p q = both (nat_le first byte) (nat_le byte last) p q

first_of : (a b c d e f : Bool) → a ≡ true → (a || b || c || d || e || f) ≡ true
first_of true b c d e f p = refl
first_of false b c d e f p = absurd (true≢false (sym p))

second_of : (a b c d e f : Bool) → b ≡ true → (a || b || c || d || e || f) ≡ true
second_of true b c d e f p = refl
second_of false true c d e f p = refl
second_of false false c d e f p = absurd (true≢false (sym p))

third_of : (a b c d e f : Bool) → c ≡ true → (a || b || c || d || e || f) ≡ true
third_of true b c d e f p = refl
third_of false true c d e f p = refl
third_of false false true d e f p = refl
third_of false false false d e f p = absurd (true≢false (sym p))

upper : (byte : ℕ) → is_within 65 90 byte ≡ true → is_base64_byte byte ≡ true
upper byte p = first_of (is_within 65 90 byte) (is_within 97 122 byte) (is_within 48 57 byte) (byte == 43) (byte == 47) (byte == 61) p

lower : (byte : ℕ) → is_within 97 122 byte ≡ true → is_base64_byte byte ≡ true
lower byte p = second_of (is_within 65 90 byte) (is_within 97 122 byte) (is_within 48 57 byte) (byte == 43) (byte == 47) (byte == 61) p

digit : (byte : ℕ) → is_within 48 57 byte ≡ true → is_base64_byte byte ≡ true
digit byte p = third_of (is_within 65 90 byte) (is_within 97 122 byte) (is_within 48 57 byte) (byte == 43) (byte == 47) (byte == 61) p

pub symbol_passes : (n : ℕ) → is_base64_byte (symbol_of n) ≡ true
symbol_passes n = go (nat_lt n 26) refl (nat_lt n 52) refl (nat_lt n 62) refl (n == 62)
  where
    go : (p : Bool) → nat_lt n 26 ≡ p → (q : Bool) → nat_lt n 52 ≡ q → (r : Bool) → nat_lt n 62 ≡ r → (s : Bool)
        → is_base64_byte (cond p (65 + n) (cond q (97 + (n - 26)) (cond r (48 + (n - 52)) (cond s 43 47)))) ≡ true
    go true e q f r g s = upper (65 + n) (within 65 90 (65 + n) (grind (arith, nat_tests)) (grind (arith, nat_tests, e)))
    go false e true f r g s = lower (97 + (n - 26)) (within 97 122 (97 + (n - 26)) (grind (arith, nat_tests)) (grind (arith, nat_tests, e, f)))
    go false e false f true g s = digit (48 + (n - 52)) (within 48 57 (48 + (n - 52)) (grind (arith, nat_tests)) (grind (arith, nat_tests, f, g)))
    go false e false f false g true = refl
    go false e false f false g false = refl

-- a symbol in front of such bytes
more : (n : ℕ) (rest : List ℕ) → list_all is_base64_byte rest ≡ true → list_all is_base64_byte (symbol_of n ∷ rest) ≡ true
more n rest e = both (is_base64_byte (symbol_of n)) (list_all is_base64_byte rest) (symbol_passes n) e

encoded_passes : (given : List ℕ) → list_all is_base64_byte (in_base64 given) ≡ true
unfolding in_base64
encoded_passes [] = refl
encoded_passes (a ∷ []) = more (a / 4) (symbol_of (a % 4 * 16) ∷ 61 ∷ 61 ∷ []) (more (a % 4 * 16) (61 ∷ 61 ∷ []) refl)
encoded_passes (a ∷ b ∷ []) =
    more (a / 4) (symbol_of (a % 4 * 16 + b / 16) ∷ symbol_of (b % 16 * 4) ∷ 61 ∷ []) (more (a % 4 * 16 + b / 16) (symbol_of (b % 16 * 4) ∷ 61 ∷ []) (more (b % 16 * 4) (61 ∷ []) refl))
encoded_passes (a ∷ b ∷ c ∷ rest) =
    let third = symbol_of (b % 16 * 4 + c / 64) in
    let fourth = symbol_of (c % 64) in
    more (a / 4) (symbol_of (a % 4 * 16 + b / 16) ∷ third ∷ fourth ∷ in_base64 rest) (more (a % 4 * 16 + b / 16) (third ∷ fourth ∷ in_base64 rest)
    (more (b % 16 * 4 + c / 64) (fourth ∷ in_base64 rest) (more (c % 64) (in_base64 rest) (encoded_passes rest))))

second : (a b : Bool) → (a && b) ≡ true → b ≡ true
second true b e = e
second false b e = absurd (true≢false (sym e))

-- what a test chose
abbrev pub Fits : Option PictureKind → List ℕ → Type 0
Fits found given = (drawn : PictureKind) → found ≡ Some drawn → list_all is_base64_byte (image_data drawn given) ≡ true

no_kind : (given : List ℕ) → Fits None given
no_kind given drawn e = absurd (true≢false (sym (ap is_some e)))

a_kind : (chosen : PictureKind) (given : List ℕ) → list_all is_base64_byte (image_data chosen given) ≡ true → Fits (Some chosen) given
a_kind chosen given holds drawn e = subst (λ k. list_all is_base64_byte (image_data k given) ≡ true) (ap (λ o. unwrap_or o chosen) e) holds

fits_magic : Base64IsItsAlone → (magic given : List ℕ) → is_base64_of magic given ≡ true → list_all is_base64_byte given ≡ true
unfolding is_base64_of
fits_magic alone magic given e = alone given (second (starts_with nat_eq given magic) (is_base64 given) e)

png_fits : Base64IsItsAlone → (given : List ℕ) (t : Bool) → is_base64_of png_magic given ≡ t → Fits (cond t (Some kind.Png) None) given
png_fits alone given true e = a_kind kind.Png given (fits_magic alone png_magic given e)
png_fits alone given false e = no_kind given

jpeg_fits : Base64IsItsAlone → (given : List ℕ) (t : Bool) → is_base64_of jpeg_magic given ≡ t → Fits (cond t (Some kind.Jpeg) None) given
jpeg_fits alone given true e = a_kind kind.Jpeg given (fits_magic alone jpeg_magic given e)
jpeg_fits alone given false e = no_kind given

svg_fits : (given : List ℕ) (t : Bool) → Fits (cond t (Some kind.Svg) None) given
svg_fits given true = a_kind kind.Svg given (encoded_passes given)
svg_fits given false = no_kind given

choose : (given : List ℕ) (p q r : Bool) (png jpeg svg : Option PictureKind) → Fits png given → Fits jpeg given → Fits svg given
    → Fits (if p then png else if q then jpeg else if r then svg else None) given
choose given true q r png jpeg svg a b c = a
choose given false true r png jpeg svg a b c = b
choose given false false true png jpeg svg a b c = c
choose given false false false png jpeg svg a b c = no_kind given

pub pictures_are : Base64IsItsAlone → PicturesAreBase64
pictures_are alone name given = choose given (bytes_eq name (codes "image/png;base64")) (bytes_eq name (codes "image/jpeg;base64")) (bytes_eq name (codes "image/svg+xml")) _ _ _
    (png_fits alone given (is_base64_of png_magic given) refl) (jpeg_fits alone given (is_base64_of jpeg_magic given) refl) (svg_fits given (is_svg given))
