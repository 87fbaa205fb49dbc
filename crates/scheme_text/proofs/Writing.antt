-- What is written between quotes.
use Rattle.std.proofs.Common.{◌≡◌, ℕ, Bool, true, false, cond, List, [], ◌∷◌, ◌++◌, refl, ap, sym, subst, append_assoc, append-nil}
use Rattle.std.specs.List.{flat_map}
use Rattle.scheme_text.specs.Quoting.{is_marked, Quotes, nothing, itself, after_slash, quoted}
use Rattle.scheme_text.specs.Answers.{Strings, no_string, white_first, string_first, tuple, Says}
use Rattle.scheme_text.specs.Laws.{string_after_space, written_tuple}

byte_is_read : (c : ℕ) (s t : List ℕ) → Quotes s t → (b : Bool) → is_marked c ≡ b → Quotes (cond b (92 ∷ c ∷ []) (c ∷ []) ++ s) (c ∷ t)
byte_is_read c s t p true h = subst (λ u. Quotes (92 ∷ c ∷ s) (u ++ t)) (ap (λ b. cond b (c ∷ []) (92 ∷ c ∷ [])) h) (after_slash {c = c} p)
byte_is_read c s t p false h = itself h p

pub quoted_is_read : (t : List ℕ) → Quotes (quoted t) t
quoted_is_read [] = nothing
quoted_is_read (c ∷ t) = byte_is_read c (quoted t) t (quoted_is_read t) (is_marked c) refl

strings_written : (ts : List (List ℕ)) → Strings (flat_map string_after_space ts) ts
strings_written [] = no_string
strings_written (t ∷ ts) =
    let tail = flat_map string_after_space ts in
    white_first refl (subst (λ r. Strings (34 ∷ r) (t ∷ ts)) (sym (append_assoc (quoted t) (34 ∷ []) tail)) (string_first (quoted_is_read t) (strings_written ts)))

pub tuples_are_read : (ts : List (List ℕ)) → Says (written_tuple ts) ts
tuples_are_read ts = record {
  before = [];
  inside = written_tuple ts;
  following = [];
  is = sym (append-nil (written_tuple ts));
  white_before = refl;
  white_after = refl;
  form = tuple [] (flat_map string_after_space ts) refl (strings_written ts);
}

pub ruleset quoted_rules = (append_assoc, append-nil)

pub ruleset request_rules = (append_assoc)
