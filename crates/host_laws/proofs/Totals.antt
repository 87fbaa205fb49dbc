-- Sums over lives, where one changes, goes or begins.
use Rattle.std.proofs.Common.{◌≡◌, ◌+◌, ◌≤◌, ℕ, List, [], ◌∷◌, ◌++◌, ap, arith, Bool, true, false, Some}
use Rattle.std.specs.Prelude.{if◌then◌else◌}
use Rattle.std.specs.Str.{bytes_eq}
use Rattle.session_engine.specs.Named.{first_named, without_named, replace_named}
use Rattle.session_engine.specs.World.{Going}

abbrev pub total : (Going → ℕ) → List Going → ℕ
total f [] = 0
total f (l ∷ ls) = f l + total f ls

module _ (f : Going → ℕ) (name : List ℕ) where
  pub total-put : (l m : Going) (ls : List Going) → first_named (λ g. g.name) name ls ≡ Some l → total f (replace_named (λ g. g.name) name m ls) + f l ≡ total f ls + f m
  total-put l m [] h = cc
  total-put l m (x ∷ ls) h = go (bytes_eq x.name name) h (total-put l m ls)
    where
      go : (b : Bool) → (if b then Some x else first_named (λ g. g.name) name ls) ≡ Some l
          → (first_named (λ g. g.name) name ls ≡ Some l → total f (replace_named (λ g. g.name) name m ls) + f l ≡ total f ls + f m)
          → total f (if b then m ∷ ls else x ∷ replace_named (λ g. g.name) name m ls) + f l ≡ f x + total f ls + f m
      go true h rest = let same : f x ≡ f l = (let e : x ≡ l = cc in ap f e) in omega (arith, same)
      go false h rest = let more = rest h in omega (arith, more)

  pub total-out : (l : Going) (ls : List Going) → first_named (λ g. g.name) name ls ≡ Some l → total f (without_named (λ g. g.name) name ls) + f l ≡ total f ls
  total-out l [] h = cc
  total-out l (x ∷ ls) h = go (bytes_eq x.name name) h (total-out l ls)
    where
      go : (b : Bool) → (if b then Some x else first_named (λ g. g.name) name ls) ≡ Some l
          → (first_named (λ g. g.name) name ls ≡ Some l → total f (without_named (λ g. g.name) name ls) + f l ≡ total f ls)
          → total f (if b then ls else x ∷ without_named (λ g. g.name) name ls) + f l ≡ f x + total f ls
      go true h rest = let same : f x ≡ f l = (let e : x ≡ l = cc in ap f e) in omega (arith, same)
      go false h rest = let more = rest h in omega (arith, more)

pub total-push : (f : Going → ℕ) (ls : List Going) (x : Going) → total f (ls ++ x ∷ []) ≡ total f ls + f x
total-push f [] x = omega arith
total-push f (l ∷ ls) x = let more = total-push f ls x in omega (arith, more)

pub total-below : (f g : Going → ℕ) (ls : List Going) → ((l : Going) → f l ≤ g l) → total f ls ≤ total g ls
total-below f g [] h = omega arith
total-below f g (l ∷ ls) h = let one = h l in let more = total-below f g ls h in omega (arith, one, more)
