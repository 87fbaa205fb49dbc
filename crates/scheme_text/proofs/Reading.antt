-- What the reader's proofs use.
use Rattle.std.proofs.Common.{◌≡◌, ℕ, false, List, [], ◌∷◌, ◌++◌, refl, ap, sym, ◌∙◌, append_assoc, append-nil, Option, Some, None}
use Rattle.std.specs.Prelude.{◌==◌, if◌then◌else◌}
use Rattle.scheme_text.specs.inside.Scan.{in_front, add_first, add_before, read_from, outside, inside, slash}
use Rattle.scheme_text.proofs.Read.{other}
use Rattle.scheme_text.proofs.Sound.{front_empty}

pub front_first : (u t : List ℕ) (o : Option (List (List ℕ))) → in_front u (add_first t o) ≡ add_first (u ++ t) o
front_first u t None = refl
front_first u t (Some ts) = refl

pub front_front : (u v : List ℕ) (o : Option (List (List ℕ))) → in_front u (in_front v o) ≡ in_front (u ++ v) o
front_front u v None = refl
front_front u v (Some []) = refl
front_front u v (Some (t ∷ ts)) = ap (λ r. Some (r ∷ ts)) (sym (append_assoc u v t))

pub front_nothing : (u t : List ℕ) (o : Option (List (List ℕ))) → in_front u (add_first [] o) ≡ add_first u o
front_nothing u t None = refl
front_nothing u t (Some ts) = ap (λ r. Some (r ∷ ts)) (append-nil u)

pub before_first : (us : List (List ℕ)) (t : List ℕ) (o : Option (List (List ℕ))) → add_before us (add_first t o) ≡ add_before (us ++ t ∷ []) o
before_first us t None = refl
before_first us t (Some ts) = ap Some (sym (append_assoc us (t ∷ []) ts))

pub plain_step : (u : List ℕ) (c : ℕ) (s : List ℕ) → (c == 34) ≡ false → (c == 92) ≡ false → in_front (u ++ c ∷ []) (read_from inside s) ≡ in_front u (read_from inside (c ∷ s))
plain_step u c s h k = sym (front_front u (c ∷ []) (read_from inside s)) ∙ ap (in_front u) (sym (
    other (c == 34) (add_first [] (read_from outside s)) (if c == 92 then read_from slash s else in_front (c ∷ []) (read_from inside s)) h
    ∙ other (c == 92) (read_from slash s) (in_front (c ∷ []) (read_from inside s)) k))

pub ruleset string_rules = (front_first, front_front, front_nothing, front_empty)

pub ruleset tuple_rules = (before_first, append-nil)

pub ruleset form_rules = (append-nil)
