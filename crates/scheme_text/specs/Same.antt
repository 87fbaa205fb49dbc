-- When two values of completions are the same, as a test, and that the test tells it.
use Rattle.std.proofs.Common.{◌≡◌, Bool, true, ◌&&◌, refl, ap, ◌∙◌, subst}
use Rattle.std.proofs.lemmas.Bool.{and_parts, and_from}
use Rattle.std.proofs.lemmas.Slice.Eq.{bytes_eq-Decides}
use Rattle.std.specs.Bool.{Decides}
use Rattle.std.specs.Str.{bytes_eq}
use Rattle.std.specs.Cmp.{IsEquivalence, IsPartialEquivalence, decided, partial_equiv_from_equiv}
use Rattle.std.specs.Cmp.Lexicographic.{pointwise, pointwise_decides}
use Rattle.scheme_text.specs.declared.answer.Completions.{Completions}

-- whether they are the same, part by part
abbrev pub same_completions : Completions → Completions → Bool
same_completions c d = bytes_eq c.root d.root && pointwise bytes_eq c.rest d.rest

same_when_equal : (c d : Completions) → same_completions c d ≡ true → c ≡ d
same_when_equal c d h =
    let u = and_parts (bytes_eq c.root d.root) (pointwise bytes_eq c.rest d.rest) h in
    ap (λ x. record { root = x; rest = c.rest }) ((bytes_eq-Decides c.root d.root).0 u.0)
    ∙ ap (λ x. record { root = d.root; rest = x }) ((pointwise_decides bytes_eq-Decides c.rest d.rest).0 u.1)

same_itself : (c : Completions) → same_completions c c ≡ true
same_itself c =
    and_from (bytes_eq c.root c.root) (pointwise bytes_eq c.rest c.rest) ((bytes_eq-Decides c.root c.root).1 refl) ((pointwise_decides bytes_eq-Decides c.rest c.rest).1 refl)

pub same_completions-Decides : (c d : Completions) → Decides (same_completions c d) (c ≡ d)
same_completions-Decides c d = (same_when_equal c d, λ e. subst (λ x. same_completions c x ≡ true) e (same_itself c))

pub same_completions_equiv : IsEquivalence same_completions
same_completions_equiv = decided same_completions same_completions-Decides

pub same_completions_per : IsPartialEquivalence same_completions
same_completions_per = partial_equiv_from_equiv same_completions_equiv
