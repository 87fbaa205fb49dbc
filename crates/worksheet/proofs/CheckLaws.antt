-- Tests of texts.
use Rattle.std.proofs.Common.{◌≡◌, ℕ, List, refl, sym, Bool, true, false}
use Rattle.std.specs.Prelude.{Result, Ok, Err, MatchResult, is_ok}
use Rattle.std.specs.Str.{IsUtf8, is_utf8}
use Rattle.std.proofs.lemmas.Str.{IsUtf8-from_is_utf8, is_utf8-from_IsUtf8}

-- reading a text tells whether it is one
pub is_ok-text : {T E : Type 0} (P : T → Type 0) (Q : E → Type 0) (bytes : List ℕ) (read : Result T E)
    → MatchResult read (λ text. P text × IsUtf8 bytes) (λ e. ¬ (IsUtf8 bytes) × Q e) → is_ok read ≡ is_utf8 bytes
is_ok-text P Q bytes (Ok text) h = sym (is_utf8-from_IsUtf8 bytes h.1)
is_ok-text P Q bytes (Err e) h = go (is_utf8 bytes) (λ text. absurd (h.0 (IsUtf8-from_is_utf8 bytes text)))
  where
    go : (b : Bool) → (b ≡ true → false ≡ b) → false ≡ b
    go true k = k refl
    go false k = refl

-- what is read as a text is UTF-8, and what isn't is not
pub text_is : (bytes : List ℕ) → IsUtf8 bytes → is_utf8 bytes ≡ true
text_is bytes text = is_utf8-from_IsUtf8 bytes text

pub no_text_is : (bytes : List ℕ) → ¬ (IsUtf8 bytes) → is_utf8 bytes ≡ false
no_text_is bytes none = go (is_utf8 bytes) (λ text. none (IsUtf8-from_is_utf8 bytes text))
  where
    go : (b : Bool) → (b ≡ true → ⊥) → b ≡ false
    go true k = absurd (k refl)
    go false k = refl
