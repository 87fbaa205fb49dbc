-- What looking a key up finds.
use Rattle.std.proofs.Common.{◌≡◌, ℕ, ◌<◌, List, [], ◌∷◌, length, get_or, slice_get, refl, ◌∙◌, arith, Bool, true, false, Option, Some, None, zero, suc, cond}
use Rattle.std.specs.Prelude.{is_some, ◌||◌}
use Rattle.std.specs.Borrow.{Bor}
use Rattle.std.specs.Option.{option_copied}
use Rattle.std.specs.List.{find}
use Rattle.std.specs.Map.{lookup, values_of}
use Rattle.worksheet.specs.inside.Entries.{shown, reserved, Fits}

abbrev pub flat : {V : Type 0} → Option (Option V) → Option V
flat None = None
flat (Some o) = o

pub none_from : {A : Type 0} (o : Option A) → is_some o ≡ false → o ≡ None
none_from None e = refl
none_from (Some x) e = cc

pub is_some-copied : {A : Type 0} (o : Option (Bor A)) → is_some (option_copied o) ≡ is_some o
is_some-copied None = refl
is_some-copied (Some x) = refl

abbrev the_value : {V : Type 0} → Bool → Option (Option V)
the_value b = cond b (Some None) None

module _ {K V : Type 0} (key : V → K) (test other : K → Bool) (same : (k : K) → test k ≡ other k) where
  -- the value that is found under a key
  pub lookup-shown : (es : List (K × Option V)) → Fits key es → flat (lookup test es) ≡ find (λ v. other (key v)) (shown es)
  lookup-shown [] f = refl
  lookup-shown ((k, None) ∷ es) f = rw f (go (test k))
    where
      go : (b : Bool) → flat {V = V} (cond b (Some None) None) ≡ None
      go true = refl
      go false = refl
  lookup-shown ((k, Some v) ∷ es) f = rw (f.0, ← same k) (go (test k) (lookup-shown es f.1))
    where
      go : (b : Bool) → flat (lookup test es) ≡ find (λ v. other (key v)) (shown es) → flat (cond b (Some (Some v)) (lookup test es)) ≡ cond b (Some v) (find (λ v. other (key v)) (shown es))
      go true rest = refl
      go false rest = rest

  -- a key is there where a value has it, or it is the reserved one
  abbrev pub is_reserved : Option K → Bool
  is_reserved None = false
  is_reserved (Some k) = test k

  pub lookup-either : (es : List (K × Option V)) → Fits key es → is_some (lookup test es) ≡ (is_some (find (λ v. other (key v)) (shown es)) || is_reserved (reserved es))
  lookup-either [] f = refl
  lookup-either ((k, None) ∷ es) f = rw f (go (test k))
    where
      go : (b : Bool) → is_some (the_value {V = V} b) ≡ b
      go true = refl
      go false = refl
  lookup-either ((k, Some v) ∷ es) f = rw (f.0, ← same k) (go (test k) (lookup-either es f.1))
    where
      go : (b : Bool) → is_some (lookup test es) ≡ (is_some (find (λ v. other (key v)) (shown es)) || is_reserved (reserved es))
          → is_some (cond b (Some (Some v)) (lookup test es)) ≡ (is_some (cond b (Some v) (find (λ v. other (key v)) (shown es))) || is_reserved (reserved es))
      go true rest = refl
      go false rest = rest

  -- and isn't there otherwise
  pub lookup-absent : (es : List (K × Option V)) → Fits key es → find (λ v. other (key v)) (shown es) ≡ None → is_reserved (reserved es) ≡ false → lookup test es ≡ None
  lookup-absent es f h p = none_from (lookup test es) (lookup-either es f ∙ rw (h, p) refl)

module _ {K V : Type 0} (key : V → K) where
  -- a value that is found at a place of the map stands at that place of the values
  pub value_at : (es : List (K × Option V)) (i : ℕ) (v : V) → Fits key es → slice_get (values_of es) i ≡ Some (Some v) → i < length (shown es)
  value_at [] i v f h = cc
  value_at ((k, None) ∷ es) zero v f h = cc
  value_at ((k, None) ∷ es) (suc i) v f h = absurd (go es f h)
    where
      go : (es : List (K × Option V)) → es ≡ [] → slice_get (values_of es) i ≡ Some (Some v) → ⊥
      go [] e h = cc
      go (x ∷ es) e h = cc
  value_at ((k, Some w) ∷ es) zero v f h = omega arith
  value_at ((k, Some w) ∷ es) (suc i) v f h = let rest = value_at es i v f.1 h in omega (arith, rest)

  pub shown_at : (es : List (K × Option V)) (i : ℕ) (v d : V) → Fits key es → slice_get (values_of es) i ≡ Some (Some v) → get_or (shown es) i d ≡ v
  shown_at [] i v d f h = cc
  shown_at ((k, None) ∷ es) zero v d f h = cc
  shown_at ((k, None) ∷ es) (suc i) v d f h = absurd (go es f h)
    where
      go : (es : List (K × Option V)) → es ≡ [] → slice_get (values_of es) i ≡ Some (Some v) → ⊥
      go [] e h = cc
      go (x ∷ es) e h = cc
  shown_at ((k, Some w) ∷ es) zero v d f h = cc
  shown_at ((k, Some w) ∷ es) (suc i) v d f h = shown_at es i v d f.1 h
