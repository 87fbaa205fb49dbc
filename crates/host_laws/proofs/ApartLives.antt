-- The lives of one session among those of all.
use Rattle.std.proofs.Common.{◌≡◌, ℕ, List, [], ◌∷◌, ◌++◌, refl, ap, sym, ◌∙◌, Bool, true, false, Option, Some, None}
use Rattle.std.specs.Prelude.{if◌then◌else◌}
use Rattle.std.specs.Str.{bytes_eq}
use Rattle.std.proofs.lemmas.Slice.Eq.{bytes_eq-Decides}
use Rattle.session_engine.specs.Named.{first_named, without_named, replace_named}
use Rattle.session_engine.specs.World.{Going}
use Rattle.host_laws.specs.Apart.{named}

pub same_name : (a b : List ℕ) → bytes_eq a b ≡ true → a ≡ b
same_name a b e = (bytes_eq-Decides a b).0 e

pub is_itself : (a : List ℕ) → bytes_eq a a ≡ true
is_itself a = (bytes_eq-Decides a a).1 refl

abbrev pub put_first : Going → List Going → List Going
put_first y [] = []
put_first y (l ∷ ls) = y ∷ ls

abbrev pub rest_of : List Going → List Going
rest_of [] = []
rest_of (l ∷ ls) = ls

abbrev pub front_of : List Going → Option Going
front_of [] = None
front_of (l ∷ ls) = Some l

-- a life of another session
pub replaced_other : (n : List ℕ) (y : Going) (ls : List Going) → bytes_eq y.name n ≡ false → named n (replace_named (λ l. l.name) y.name y ls) ≡ named n ls
replaced_other n y [] h = refl
replaced_other n y (l ∷ ls) h = go (bytes_eq l.name y.name) refl (replaced_other n y ls h)
  where
    go : (b : Bool) → bytes_eq l.name y.name ≡ b → named n (replace_named (λ l. l.name) y.name y ls) ≡ named n ls
        → named n (if b then y ∷ ls else l ∷ replace_named (λ l. l.name) y.name y ls) ≡ named n (l ∷ ls)
    go true e ih = let k : bytes_eq l.name n ≡ false = ap (λ (m : List ℕ). bytes_eq m n) (same_name l.name y.name e) ∙ h in rw (h, k) refl
    go false e ih = ap (λ (xs : List Going). if bytes_eq l.name n then l ∷ xs else xs) ih

pub without_other : (n m : List ℕ) (ls : List Going) → bytes_eq m n ≡ false → named n (without_named (λ l. l.name) m ls) ≡ named n ls
without_other n m [] h = refl
without_other n m (l ∷ ls) h = go (bytes_eq l.name m) refl (without_other n m ls h)
  where
    go : (b : Bool) → bytes_eq l.name m ≡ b → named n (without_named (λ l. l.name) m ls) ≡ named n ls → named n (if b then ls else l ∷ without_named (λ l. l.name) m ls) ≡ named n (l ∷ ls)
    go true e ih = let k : bytes_eq l.name n ≡ false = ap (λ (j : List ℕ). bytes_eq j n) (same_name l.name m e) ∙ h in rw k refl
    go false e ih = ap (λ (xs : List Going). if bytes_eq l.name n then l ∷ xs else xs) ih

-- a life of the session
pub replaced_own : (n : List ℕ) (y : Going) (ls : List Going) → bytes_eq y.name n ≡ true → named n (replace_named (λ l. l.name) n y ls) ≡ put_first y (named n ls)
replaced_own n y [] h = refl
replaced_own n y (l ∷ ls) h = go (bytes_eq l.name n) refl (replaced_own n y ls h)
  where
    go : (b : Bool) → bytes_eq l.name n ≡ b → named n (replace_named (λ l. l.name) n y ls) ≡ put_first y (named n ls)
        → named n (if b then y ∷ ls else l ∷ replace_named (λ l. l.name) n y ls) ≡ put_first y (if b then l ∷ named n ls else named n ls)
    go true e ih = rw h refl
    go false e ih = rw e ih

pub without_own : (n : List ℕ) (ls : List Going) → named n (without_named (λ l. l.name) n ls) ≡ rest_of (named n ls)
without_own n [] = refl
without_own n (l ∷ ls) = go (bytes_eq l.name n) refl (without_own n ls)
  where
    go : (b : Bool) → bytes_eq l.name n ≡ b → named n (without_named (λ l. l.name) n ls) ≡ rest_of (named n ls)
        → named n (if b then ls else l ∷ without_named (λ l. l.name) n ls) ≡ rest_of (if b then l ∷ named n ls else named n ls)
    go true e ih = refl
    go false e ih = rw e ih

pub named-push : (n : List ℕ) (ls : List Going) (x : Going) → named n (ls ++ x ∷ []) ≡ named n ls ++ (if bytes_eq x.name n then x ∷ [] else [])
named-push n [] x = refl
named-push n (l ∷ ls) x = go (bytes_eq l.name n) (named-push n ls x)
  where
    go : (b : Bool) → named n (ls ++ x ∷ []) ≡ named n ls ++ (if bytes_eq x.name n then x ∷ [] else [])
        → (if b then l ∷ named n (ls ++ x ∷ []) else named n (ls ++ x ∷ [])) ≡ (if b then l ∷ named n ls else named n ls) ++ (if bytes_eq x.name n then x ∷ [] else [])
    go true ih = ap (λ (xs : List Going). l ∷ xs) ih
    go false ih = ih

pub first_is : (n : List ℕ) (ls : List Going) → first_named (λ l. l.name) n ls ≡ front_of (named n ls)
first_is n [] = refl
first_is n (l ∷ ls) = go (bytes_eq l.name n) (first_is n ls)
  where
    go : (b : Bool) → first_named (λ l. l.name) n ls ≡ front_of (named n ls) → (if b then Some l else first_named (λ l. l.name) n ls) ≡ front_of (if b then l ∷ named n ls else named n ls)
    go true ih = refl
    go false ih = ih

pub first_has : (m : List ℕ) (ls : List Going) (l : Going) → first_named (λ l. l.name) m ls ≡ Some l → l.name ≡ m
first_has m [] l h = cc
first_has m (x ∷ ls) l h = go (bytes_eq x.name m) refl h (first_has m ls l)
  where
    go : (b : Bool) → bytes_eq x.name m ≡ b → (if b then Some x else first_named (λ l. l.name) m ls) ≡ Some l → (first_named (λ l. l.name) m ls ≡ Some l → l.name ≡ m) → l.name ≡ m
    go true e h ih = let s : x ≡ l = cc in ap (λ (y : Going). y.name) (sym s) ∙ same_name x.name m e
    go false e h ih = ih h
