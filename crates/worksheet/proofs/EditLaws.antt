-- Edits at a place are edits at a number, where no number stands twice.
use Rattle.std.proofs.Common.{◌≡◌, ℕ, ◌<◌, List, [], ◌∷◌, length, map, set, get_or, refl, ap, sym, subst, arith, true, false, Some, zero, suc, insert, remove}
use Rattle.std.specs.Prelude.{◌==◌}
use Rattle.std.proofs.lemmas.Bool.Decides.{nat_tests}
use Rattle.worksheet.specs.declared.field.Field.{Field}
use Rattle.worksheet.specs.Ops.{put_after}
use Rattle.worksheet.specs.Checks.{numbers, field_in}
use Rattle.worksheet.specs.Edits.{Lacks, AreApart, at_field, fields_without}

-- the fields without a number aren't changed
pub at_others : (id : ℕ) (change : Field → Field) (fs : List Field) → Lacks id (numbers fs) → map (at_field id change) fs ≡ fs
at_others id change [] a = refl
at_others id change (f ∷ fs) a = rw a.0 (ap (λ (gs : List Field). f ∷ gs) (at_others id change fs a.1))

without_others : (id : ℕ) (fs : List Field) → Lacks id (numbers fs) → fields_without id fs ≡ fs
without_others id [] a = refl
without_others id (f ∷ fs) a = rw a.0 (ap (λ (gs : List Field). f ∷ gs) (without_others id fs a.1))

-- a field among those without a number has another
other_at : (n : ℕ) (fs : List Field) (i : ℕ) (d : Field) → Lacks n (numbers fs) → i < length fs → ((get_or fs i d).id == n) ≡ false
other_at n [] i d a h = absurd (omega arith)
other_at n (f ∷ fs) zero d a h = a.0
other_at n (f ∷ fs) (suc i) d a h = other_at n fs i d a.1 (omega arith)

-- a field after the first isn't the first
pub not_first : (id : ℕ) (f : Field) (fs : List Field) (i : ℕ) (d : Field) → Lacks f.id (numbers fs) → i < length fs → (get_or fs i d).id ≡ id → (f.id == id) ≡ false
not_first id f fs i d a h e = let o = other_at f.id fs i d a h in grind (arith, nat_tests)

pub set-at_field : (id : ℕ) (change : Field → Field) (fs : List Field) (i : ℕ) (d : Field) → AreApart (numbers fs) → i < length fs → (get_or fs i d).id ≡ id
    → set fs i (change (get_or fs i d)) ≡ map (at_field id change) fs
set-at_field id change [] i d a h e = absurd (omega arith)
set-at_field id change (f ∷ fs) zero d a h e =
    let t : (f.id == id) ≡ true = grind (arith, nat_tests) in
    rw t (ap (λ (gs : List Field). change f ∷ gs) (sym (at_others id change fs (subst (λ n. Lacks n (numbers fs)) e a.0))))
set-at_field id change (f ∷ fs) (suc i) d a h e =
    rw (not_first id f fs i d a.0 (omega arith) e) (ap (λ (gs : List Field). f ∷ gs) (set-at_field id change fs i d a.1 (omega arith) e))

pub remove-fields_without : (id : ℕ) (fs : List Field) (i : ℕ) (d : Field) → AreApart (numbers fs) → i < length fs → (get_or fs i d).id ≡ id
    → remove fs i ≡ fields_without id fs
remove-fields_without id [] i d a h e = absurd (omega arith)
remove-fields_without id (f ∷ fs) zero d a h e =
    let t : (f.id == id) ≡ true = grind (arith, nat_tests) in
    rw t (sym (without_others id fs (subst (λ n. Lacks n (numbers fs)) e a.0)))
remove-fields_without id (f ∷ fs) (suc i) d a h e =
    rw (not_first id f fs i d a.0 (omega arith) e) (ap (λ (gs : List Field). f ∷ gs) (remove-fields_without id fs i d a.1 (omega arith) e))

pub find-at : (id : ℕ) (fs : List Field) (i : ℕ) (d : Field) → AreApart (numbers fs) → i < length fs → (get_or fs i d).id ≡ id
    → field_in fs id ≡ Some (get_or fs i d)
find-at id [] i d a h e = absurd (omega arith)
find-at id (f ∷ fs) zero d a h e = let t : (f.id == id) ≡ true = grind (arith, nat_tests) in rw t refl
find-at id (f ∷ fs) (suc i) d a h e =
    rw (not_first id f fs i d a.0 (omega arith) e) (find-at id fs i d a.1 (omega arith) e)

pub insert-put_after : (id : ℕ) (x : Field) (fs : List Field) (i : ℕ) (d : Field) → AreApart (numbers fs) → i < length fs → (get_or fs i d).id ≡ id
    → insert fs (suc i) x ≡ put_after (λ other. other.id == id) x fs
insert-put_after id x [] i d a h e = absurd (omega arith)
insert-put_after id x (f ∷ fs) zero d a h e = let t : (f.id == id) ≡ true = grind (arith, nat_tests) in rw t refl
insert-put_after id x (f ∷ fs) (suc i) d a h e =
    rw (not_first id f fs i d a.0 (omega arith) e) (ap (λ (gs : List Field). f ∷ gs) (insert-put_after id x fs i d a.1 (omega arith) e))
