-- Lines one after another are cut in one way.
use Rattle.std.proofs.Common.{◌≡◌, ◌≤◌, ℕ, List, [], ◌∷◌, ◌++◌, flat_map, arith, refl, ap₂, sym, ◌∙◌, append_assoc}
use Rattle.serde_json.specs.Data.{Data}
use Rattle.serde_json.specs.Written.{compact_text}
use Rattle.sheet_json.specs.Laws.{LinesApart}
use Rattle.sheet_json.specs.Lines.{IsWithinLine, json_line}
use Rattle.sheet_json.proofs.Within.{text_within}

first : {x y : ℕ} {xs ys : List ℕ} → x ∷ xs ≡ y ∷ ys → x ≡ y
first h = cc h

others : {x y : ℕ} {xs ys : List ℕ} → x ∷ xs ≡ y ∷ ys → xs ≡ ys
others h = cc h

not_ten : (y : ℕ) → 32 ≤ y → 10 ≡ y → ⊥
not_ten y h e = omega (arith, h, e)

-- at the first line feed
cut : (xs ys r s : List ℕ) → IsWithinLine xs → IsWithinLine ys → xs ++ 10 ∷ r ≡ ys ++ 10 ∷ s → (xs ≡ ys) × (r ≡ s)
cut [] [] r s p q e = (refl, others e)
cut [] (y ∷ ys) r s p q e = absurd (not_ten y q.0 (first e))
cut (x ∷ xs) [] r s p q e = absurd (not_ten x p.0 (sym (first e)))
cut (x ∷ xs) (y ∷ ys) r s p q e = let rest = cut xs ys r s p.1 q.1 (others e) in (ap₂ (λ a b. a ∷ b) (first e) rest.0, rest.1)

line_first : (d : Data) (ds : List Data) → flat_map json_line (d ∷ ds) ≡ compact_text d ++ 10 ∷ flat_map json_line ds
line_first d ds = append_assoc (compact_text d) (10 ∷ []) (flat_map json_line ds)

no_line : (xs r : List ℕ) → [] ≡ xs ++ 10 ∷ r → ⊥
no_line [] r e = cc e
no_line (x ∷ xs) r e = cc e

pub lines_apart : LinesApart
lines_apart [] [] p q e = refl
lines_apart [] (b ∷ bs) p q e = absurd (no_line (compact_text b) (flat_map json_line bs) (e ∙ line_first b bs))
lines_apart (a ∷ more) [] p q e = absurd (no_line (compact_text a) (flat_map json_line more) (sym e ∙ line_first a more))
lines_apart (a ∷ more) (b ∷ bs) p q e =
    let both = cut (compact_text a) (compact_text b) (flat_map json_line more) (flat_map json_line bs) (text_within a p.0) (text_within b q.0) (sym (line_first a more) ∙ e ∙ line_first b bs) in
    ap₂ (λ x t. x ∷ t) both.0 (lines_apart more bs p.1 q.1 both.1)
