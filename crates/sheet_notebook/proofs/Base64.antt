-- Base64 has no other bytes.
use Rattle.std.proofs.Common.{◌≡◌, ℕ, Bool, true, false, List, [], ◌∷◌, refl, sym, ◌∙◌}
use Rattle.std.specs.Prelude.{◌==◌, ◌&&◌, not, nat_le}
use Rattle.std.specs.List.{list_all}
use Rattle.std.proofs.lemmas.Bool.{true≢false}
use Rattle.sheet_notebook.specs.Laws.{Base64IsItsAlone}
use Rattle.sheet_notebook.specs.Pictures.{are_groups, is_base64, is_base64_byte, is_symbol_byte, next_place}

first : (a b : Bool) → (a && b) ≡ true → a ≡ true
first true b e = refl
first false b e = absurd (true≢false (sym e))

second : (a b : Bool) → (a && b) ≡ true → b ≡ true
second true b e = e
second false b e = absurd (true≢false (sym e))

groups_alone : (place : ℕ) (padded : Bool) (given : List ℕ) → are_groups place padded given ≡ true → list_all is_base64_byte given ≡ true
groups_alone place padded [] e = refl
groups_alone place padded (byte ∷ rest) e = go (λ now. groups_alone (next_place place) now rest) (byte == 61) refl (is_symbol_byte byte) refl
  where
    go : ((now : Bool) → are_groups (next_place place) now rest ≡ true → list_all is_base64_byte rest ≡ true) → (t : Bool) → (byte == 61) ≡ t → (s : Bool) → is_symbol_byte byte ≡ s → list_all is_base64_byte (byte ∷ rest) ≡ true
    go holds true is true sym_is =
        let left : (nat_le 2 place && are_groups (next_place place) true rest) ≡ true = sym (rw is refl) ∙ e in
        (rw (is, sym_is) refl) ∙ holds true (second (nat_le 2 place) (are_groups (next_place place) true rest) left)
    go holds true is false sym_is =
        let left : (nat_le 2 place && are_groups (next_place place) true rest) ≡ true = sym (rw is refl) ∙ e in
        (rw (is, sym_is) refl) ∙ holds true (second (nat_le 2 place) (are_groups (next_place place) true rest) left)
    go holds false is true sym_is =
        let left : (not padded && is_symbol_byte byte && are_groups (next_place place) padded rest) ≡ true = sym (rw is refl) ∙ e in
        (rw (is, sym_is) refl) ∙ holds padded (second (not padded && is_symbol_byte byte) (are_groups (next_place place) padded rest) left)
    go holds false is false sym_is =
        let left : (not padded && is_symbol_byte byte && are_groups (next_place place) padded rest) ≡ true = sym (rw is refl) ∙ e in
        absurd (true≢false (sym (second (not padded) (is_symbol_byte byte) (first (not padded && is_symbol_byte byte) (are_groups (next_place place) padded rest) left)) ∙ sym_is))

pub base64_alone : Base64IsItsAlone
unfolding is_base64
base64_alone given e = groups_alone 0 false given e
