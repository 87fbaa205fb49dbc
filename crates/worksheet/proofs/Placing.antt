-- A field that is put among others, and is then answered.
use Rattle.std.proofs.Common.{◌≡◌, ℕ, ◌==◌, ◌||◌, Bool, true, false, List, [], ◌∷◌, map, Some, refl, ap, arith}
use Rattle.std.specs.Prelude.{is_some, if◌then◌else◌}
use Rattle.std.proofs.lemmas.Bool.Decides.{nat_tests}
use Rattle.worksheet.specs.declared.field.Field.{Field}
use Rattle.worksheet.specs.Ops.{put_after}
use Rattle.worksheet.specs.Edits.{Lacks, at_field, placed_field}
use Rattle.worksheet.specs.Checks.{field_in, numbers}
use Rattle.worksheet.proofs.EditLaws.{at_others}

pub itself : (a : ℕ) → (a == a) ≡ true
itself a = grind (arith, nat_tests)

answered_after : (after : ℕ) (change : Field → Field) (x : Field) (fs : List Field) → Lacks x.id (numbers fs)
    → map (at_field x.id change) (put_after (λ other. other.id == after) x fs) ≡ put_after (λ other. other.id == after) (change x) fs
answered_after after change x [] lacks = refl
answered_after after change x (g ∷ gs) lacks = go (g.id == after) (answered_after after change x gs lacks.1)
  where
    go : (b : Bool) → map (at_field x.id change) (put_after (λ other. other.id == after) x gs) ≡ put_after (λ other. other.id == after) (change x) gs
        → map (at_field x.id change) (if b then g ∷ x ∷ gs else g ∷ put_after (λ other. other.id == after) x gs) ≡ (if b then g ∷ change x ∷ gs else g ∷ put_after (λ other. other.id == after) (change x) gs)
    go true rest = rw (lacks.0, itself x.id) (ap (λ (l : List Field). g ∷ change x ∷ l) (at_others x.id change gs lacks.1))
    go false rest = rw lacks.0 (ap (λ (l : List Field). g ∷ l) rest)

pub answered_placed : (after : ℕ) (change : Field → Field) (x : Field) (fs : List Field) → Lacks x.id (numbers fs)
    → map (at_field x.id change) (placed_field after x fs) ≡ placed_field after (change x) fs
answered_placed after change x fs lacks = go (after == 0)
  where
    go : (b : Bool) → map (at_field x.id change) (if b then x ∷ fs else put_after (λ other. other.id == after) x fs) ≡ (if b then change x ∷ fs else put_after (λ other. other.id == after) (change x) fs)
    go true = rw (itself x.id) (ap (λ (l : List Field). change x ∷ l) (at_others x.id change fs lacks))
    go false = answered_after after change x fs lacks

there_after : (after : ℕ) (x : Field) (fs : List Field) → is_some (field_in fs after) ≡ true → is_some (field_in (put_after (λ other. other.id == after) x fs) x.id) ≡ true
there_after after x [] there = cc
there_after after x (g ∷ gs) there = go (g.id == after) (g.id == x.id) there (there_after after x gs)
  where
    go : (b c : Bool) → is_some (if b then Some g else field_in gs after) ≡ true → (is_some (field_in gs after) ≡ true → is_some (field_in (put_after (λ other. other.id == after) x gs) x.id) ≡ true)
        → is_some (field_in (if b then g ∷ x ∷ gs else g ∷ put_after (λ other. other.id == after) x gs) x.id) ≡ true
    go true c there rest = with_first (g.id == x.id)
      where
        with_first : (c : Bool) → is_some (if c then Some g else field_in (x ∷ gs) x.id) ≡ true
        with_first true = refl
        with_first false = rw (itself x.id) refl
    go false c there rest = with_first (g.id == x.id) (rest there)
      where
        with_first : (c : Bool) → is_some (field_in (put_after (λ other. other.id == after) x gs) x.id) ≡ true → is_some (if c then Some g else field_in (put_after (λ other. other.id == after) x gs) x.id) ≡ true
        with_first true h = refl
        with_first false h = h

pub there_placed : (after : ℕ) (x : Field) (fs : List Field) → ((after == 0) || is_some (field_in fs after)) ≡ true → is_some (field_in (placed_field after x fs) x.id) ≡ true
there_placed after x fs place = go (after == 0) place
  where
    go : (b : Bool) → (b || is_some (field_in fs after)) ≡ true → is_some (field_in (if b then x ∷ fs else put_after (λ other. other.id == after) x fs) x.id) ≡ true
    go true h = rw (itself x.id) refl
    go false h = there_after after x fs h
