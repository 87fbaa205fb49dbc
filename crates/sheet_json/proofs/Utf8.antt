-- Which bytes are a string.
use Rattle.std.proofs.Common.{◌≡◌, ℕ, List, Bool, true, false, cond, refl, ap}
use Rattle.std.specs.Str.{is_utf8, IsUtf8}
use Rattle.std.proofs.lemmas.Str.{IsUtf8-from_is_utf8, is_utf8-from_IsUtf8}
use Rattle.serde_json.specs.Data.{string}
use Rattle.sheet_json.specs.Bytes.{bytes_data, base64_data}

pub as_string : (bytes : List ℕ) → IsUtf8 bytes → bytes_data bytes ≡ string bytes
as_string bytes is = ap (λ t. cond t (string bytes) (base64_data bytes)) (is_utf8-from_IsUtf8 bytes is)

false_unless_true : (b : Bool) → (b ≡ true → ⊥) → b ≡ false
false_unless_true true h = absurd (h refl)
false_unless_true false h = refl

pub as_base64 : (bytes : List ℕ) → (IsUtf8 bytes → ⊥) → bytes_data bytes ≡ base64_data bytes
as_base64 bytes isnt = ap (λ t. cond t (string bytes) (base64_data bytes)) (false_unless_true (is_utf8 bytes) (λ t. isnt (IsUtf8-from_is_utf8 bytes t)))

pub ruleset utf8_rules = (as_string, as_base64)
