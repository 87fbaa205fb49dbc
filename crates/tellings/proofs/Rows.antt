-- What is written of a text, and of rows, one after another.
use Rattle.std.proofs.KnownBytes.{Appends-trans, Appends-nil}
use Rattle.std.proofs.Common.{◌≡◌, ℕ, List, [], ◌∷◌, ◌++◌, map, refl, ap, sym, ◌∙◌, subst, append_assoc, append-nil, Option}
use Rattle.std.specs.Io.KnownBytes.{Appends}

-- a front of the text is written, and these bytes of it are to come
pub record Written (a b : Option (List ℕ)) (ahead all : List ℕ) : Type 0 where
  pub text : List ℕ
  pub wrote : Appends a b text
  pub whole : text ++ ahead ≡ all

pub nothing_written : (a : Option (List ℕ)) (all : List ℕ) → Written a a all all
nothing_written a all = record { text = []; wrote = Appends-nil a; whole = refl }

pub part_written : (a b c : Option (List ℕ)) (ahead part others all : List ℕ) → ahead ≡ part ++ others → Written a b ahead all → Appends b c part → Written a c others all
part_written a b c ahead part others all e w p = record {
  text = w.text ++ part;
  wrote = Appends-trans a b c w.text part w.wrote p;
  whole = append_assoc w.text part others ∙ ap (λ t. w.text ++ t) (sym e) ∙ w.whole;
}

pub all_written : (a b : Option (List ℕ)) (ahead all : List ℕ) → ahead ≡ [] → Written a b ahead all → Appends a b all
all_written a b ahead all e w = subst (Appends a b) (sym (append-nil w.text) ∙ ap (λ t. w.text ++ t) (sym e) ∙ w.whole) w.wrote

pub all_rows : {A B : Type 0} (f : A → B) (rows : List B) (xs all : List A) → xs ≡ [] → rows ++ map f xs ≡ map f all → rows ≡ map f all
all_rows f rows xs all e h = sym (append-nil rows) ∙ ap (λ t. rows ++ map f t) (sym e) ∙ h

pub map_append : {A B : Type 0} (f : A → B) (xs ys : List A) → map f (xs ++ ys) ≡ map f xs ++ map f ys
map_append f [] ys = refl
map_append f (x ∷ xs) ys = ap (λ t. f x ∷ t) (map_append f xs ys)

pub map_twice : {A B C : Type 0} (f : A → B) (g : B → C) (xs : List A) → map (λ x. g (f x)) xs ≡ map g (map f xs)
map_twice f g [] = refl
map_twice f g (x ∷ xs) = ap (λ t. g (f x) ∷ t) (map_twice f g xs)
