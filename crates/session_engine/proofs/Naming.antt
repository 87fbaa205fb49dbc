-- Lists of what has a name, no two of which have the same.
use Rattle.std.proofs.Common.{◌≡◌, ℕ, List, [], ◌∷◌, ◌++◌, refl, ap, sym, ◌∙◌, subst, Bool, true, false, Some, None}
use Rattle.std.specs.Prelude.{if◌then◌else◌}
use Rattle.std.specs.Str.{bytes_eq}
use Rattle.std.proofs.lemmas.Slice.Eq.{bytes_eq-Decides}
use Rattle.worksheet.proofs.ApartLaws.{turned}
use Rattle.session_engine.specs.Named.{NamesDiffer, first_named, without_named, replace_named}

module _ {A : Type 0} (name_of : A → List ℕ) where
  -- none has this name, and fewer don't
  none_left : (n name : List ℕ) (xs : List A) → first_named name_of n xs ≡ None → first_named name_of n (without_named name_of name xs) ≡ None
  none_left n name [] h = h
  none_left n name (x ∷ xs) h = go (bytes_eq (name_of x) name) (bytes_eq (name_of x) n) refl h (none_left n name xs)
    where
      go : (b c : Bool) → bytes_eq (name_of x) n ≡ c → (if c then Some x else first_named name_of n xs) ≡ None
          → (first_named name_of n xs ≡ None → first_named name_of n (without_named name_of name xs) ≡ None)
          → first_named name_of n (if b then xs else x ∷ without_named name_of name xs) ≡ None
      go b true e h rest = cc
      go true false e h rest = h
      go false false e h rest = rw e (rest h)

  pub differ_without : (name : List ℕ) (xs : List A) → NamesDiffer name_of xs → NamesDiffer name_of (without_named name_of name xs)
  differ_without name [] differ = tt
  differ_without name (x ∷ xs) differ = go (bytes_eq (name_of x) name) (differ_without name xs differ.1)
    where
      go : (b : Bool) → NamesDiffer name_of (without_named name_of name xs) → NamesDiffer name_of (if b then xs else x ∷ without_named name_of name xs)
      go true rest = differ.1
      go false rest = (none_left (name_of x) name xs differ.0, rest)

  -- nor does one in the place of another of its name
  none_put : (n : List ℕ) (y : A) (xs : List A) → first_named name_of n xs ≡ None → first_named name_of n (replace_named name_of (name_of y) y xs) ≡ None
  none_put n y [] h = h
  none_put n y (x ∷ xs) h = go (bytes_eq (name_of x) (name_of y)) (bytes_eq (name_of x) n) refl refl h (none_put n y xs)
    where
      go : (b c : Bool) → bytes_eq (name_of x) (name_of y) ≡ b → bytes_eq (name_of x) n ≡ c → (if c then Some x else first_named name_of n xs) ≡ None
          → (first_named name_of n xs ≡ None → first_named name_of n (replace_named name_of (name_of y) y xs) ≡ None)
          → first_named name_of n (if b then y ∷ xs else x ∷ replace_named name_of (name_of y) y xs) ≡ None
      go b true f e h rest = cc
      go true false f e h rest =
          let other : bytes_eq (name_of y) n ≡ false = ap (λ (m : List ℕ). bytes_eq m n) (sym ((bytes_eq-Decides (name_of x) (name_of y)).0 f)) ∙ e in
          rw other h
      go false false f e h rest = rw e (rest h)

  pub differ_put : (y : A) (xs : List A) → NamesDiffer name_of xs → NamesDiffer name_of (replace_named name_of (name_of y) y xs)
  differ_put y [] differ = tt
  differ_put y (x ∷ xs) differ = go (bytes_eq (name_of x) (name_of y)) refl (differ_put y xs differ.1)
    where
      go : (b : Bool) → bytes_eq (name_of x) (name_of y) ≡ b → NamesDiffer name_of (replace_named name_of (name_of y) y xs)
          → NamesDiffer name_of (if b then y ∷ xs else x ∷ replace_named name_of (name_of y) y xs)
      go true e rest = (subst (λ (n : List ℕ). first_named name_of n xs ≡ None) ((bytes_eq-Decides (name_of x) (name_of y)).0 e) differ.0, differ.1)
      go false e rest = (none_put (name_of x) y xs differ.0, rest)

  none_after : (n : List ℕ) (xs : List A) (x : A) → first_named name_of n xs ≡ None → bytes_eq (name_of x) n ≡ false → first_named name_of n (xs ++ x ∷ []) ≡ None
  none_after n [] x none other = rw other refl
  none_after n (y ∷ xs) x none other = go (bytes_eq (name_of y) n) none (none_after n xs x)
    where
      go : (b : Bool) → (if b then Some y else first_named name_of n xs) ≡ None → (first_named name_of n xs ≡ None → bytes_eq (name_of x) n ≡ false → first_named name_of n (xs ++ x ∷ []) ≡ None)
          → (if b then Some y else first_named name_of n (xs ++ x ∷ [])) ≡ None
      go true none rest = cc
      go false none rest = rest none other

  pub differ_after : (xs : List A) (x : A) → NamesDiffer name_of xs → first_named name_of (name_of x) xs ≡ None → NamesDiffer name_of (xs ++ x ∷ [])
  differ_after [] x differ none = (refl, tt)
  differ_after (y ∷ xs) x differ none = go (bytes_eq (name_of y) (name_of x)) refl none (differ_after xs x differ.1)
    where
      go : (b : Bool) → bytes_eq (name_of y) (name_of x) ≡ b → (if b then Some y else first_named name_of (name_of x) xs) ≡ None
          → (first_named name_of (name_of x) xs ≡ None → NamesDiffer name_of (xs ++ x ∷ [])) → NamesDiffer name_of ((y ∷ xs) ++ x ∷ [])
      go true e none rest = cc
      go false e none rest = (none_after (name_of y) xs x differ.0 (turned (name_of y) (name_of x) e), rest none)
