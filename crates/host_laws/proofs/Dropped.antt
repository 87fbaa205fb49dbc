-- An item at a place of a list, and what stands there when those before it are dropped.
use Rattle.std.proofs.Common.{◌≡◌, ℕ, zero, suc, List, [], ◌∷◌, ◌++◌, length, drop, ap, subst, Option, Some, None}
use Rattle.std.specs.Prelude.{slice_get, option_to_list}
use Rattle.std.specs.List.{AllByRecursion}
use Rattle.meta_format.specs.Stream.{Outer}
use Rattle.plugin_core.specs.declared.item.Item.{Item}

pub drop_at : (n : ℕ) (items : List Item) (i : Item) → slice_get items n ≡ Some i → drop n items ≡ i ∷ drop (suc n) items
drop_at n [] i h = cc
drop_at zero (x ∷ items) i h = let e : x ≡ i = cc in ap (λ (y : Item). y ∷ items) e
drop_at (suc n) (x ∷ items) i h = drop_at n items i h

pub last_of : (xs : List Outer) (o : Option Outer) (b : Outer) → slice_get (xs ++ option_to_list o) (length xs) ≡ Some b → o ≡ Some b
last_of [] None b h = cc
last_of [] (Some y) b h = h
last_of (x ∷ xs) o b h = last_of xs o b h

pub first_dropped : (P : Item → Type 0) (n : ℕ) (items : List Item) (i : Item) → slice_get items n ≡ Some i → AllByRecursion P (drop n items) → P i
first_dropped P n [] i h all = cc
first_dropped P zero (x ∷ items) i h all = let e : x ≡ i = cc in subst P e all.0
first_dropped P (suc n) (x ∷ items) i h all = first_dropped P n items i h all

pub first_got : (P : Item → Type 0) (n : ℕ) (items : List Item) (i : Item) → slice_get items n ≡ Some i → AllByRecursion P items → P i
first_got P n [] i h all = cc
first_got P zero (x ∷ items) i h all = let e : x ≡ i = cc in subst P e all.0
first_got P (suc n) (x ∷ items) i h all = first_got P n items i h all.1
