-- No two requests have the same bytes.
use Rattle.std.proofs.Common.{◌≡◌, ℕ, Bool, true, false, List, [], ◌∷◌, ◌++◌, drop, refl, ap, sym, ◌∙◌, Option, Some, None}
use Rattle.std.specs.Prelude.{◌==◌, codes, if◌then◌else◌}
use Rattle.std.specs.Fmt.{decimal}
use Rattle.std.proofs.lemmas.Fmt.{decimal_is_IsNumeral}
use Rattle.std.proofs.lemmas.List.{append_cancel_right}
use Rattle.std.specs.Str.Parse.{digits_value}
use Rattle.scheme_text.specs.Quoting.{Quotes, nothing, itself, after_slash}
use Rattle.scheme_text.specs.inside.Words.{slashed}
use Rattle.scheme_text.specs.Laws.{OneRequest}
use Rattle.scheme_text.proofs.Read.{neither, other}
use Rattle.scheme_text.proofs.Writing.{quoted_is_read}

-- a text, and what follows it
abbrev Split : Type 0
Split = Option (List ℕ × List ℕ)

abbrev before : List ℕ → Split → Split
before u None = None
before u (Some p) = Some (u ++ p.0, p.1)

-- the text of a string whose first quote stands before these bytes, or also a backslash, and the bytes after its last quote
abbrev split : Bool → List ℕ → Split
split slash [] = None
split false (c ∷ s) = if c == 34 then Some ([], s) else if c == 92 then split true s else before (c ∷ []) (split false s)
split true (c ∷ s) = before (slashed c) (split false s)

quotes_split : {q t : List ℕ} → Quotes q t → (r : List ℕ) → split false (q ++ 34 ∷ r) ≡ Some (t, r)
quotes_split nothing r = refl
quotes_split (itself {c} {s} {t} h p) r =
    let n = neither (c == 34) (c == 92) h in
    other (c == 34) (Some ([], s ++ 34 ∷ r)) (if c == 92 then split true (s ++ 34 ∷ r) else before (c ∷ []) (split false (s ++ 34 ∷ r))) n.0
    ∙ other (c == 92) (split true (s ++ 34 ∷ r)) (before (c ∷ []) (split false (s ++ 34 ∷ r))) n.1
    ∙ ap (before (c ∷ [])) (quotes_split p r)
quotes_split (after_slash {c} {s} {t} p) r = ap (before (slashed c)) (quotes_split p r)

abbrev text_in : Split → List ℕ
text_in None = []
text_in (Some p) = p.0

abbrev after_in : Split → List ℕ
after_in None = []
after_in (Some p) = p.1

abbrev cursor_text : ℕ → List ℕ
cursor_text cursor = decimal cursor ++ codes ")\n"

pub one_request : OneRequest
one_request s t i j small little same =
    let parts : Some (s, 32 ∷ cursor_text i) ≡ Some (t, 32 ∷ cursor_text j) =
    sym (quotes_split (quoted_is_read s) (32 ∷ cursor_text i)) ∙ ap (λ (u : List ℕ). split false (drop 12 u)) same ∙ quotes_split (quoted_is_read t) (32 ∷ cursor_text j) in
    let decimals : decimal i ≡ decimal j = append_cancel_right (decimal i) (decimal j) (codes ")\n") (ap (λ p. drop 1 (after_in p)) parts) in (
      ap text_in parts,
      sym (decimal_is_IsNumeral i small).1 ∙ ap (digits_value 10) decimals ∙ (decimal_is_IsNumeral j little).1,
    )
