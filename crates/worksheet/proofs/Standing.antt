-- Where a field stands in the map.
use Rattle.std.proofs.Common.{◌≡◌, [], map, ◌≢◌, ◌∙◌, ◌∷◌, ◌++◌, ◌-◌, ap, zero, insert, remove, ℕ, ◌<◌, ◌≤◌, List, length, length-append, get_or, slice_get, sym, subst, arith, refl, true, false, Some, None, Option, suc}
use Rattle.std.specs.Prelude.{◌==◌, is_some, nat_eq, IsSome}
use Rattle.std.specs.Map.{lookup, values_of}
use Rattle.std.proofs.lemmas.Bool.Decides.{nat_tests}
use Rattle.worksheet.specs.declared.field.Field.{Field}
use Rattle.worksheet.specs.Checks.{field_in, numbers, in_front, is_number}
use Rattle.worksheet.specs.inside.Words.{stands_after}
use Rattle.worksheet.specs.Edits.{AllBelow, AreApart, at_field, fields_without, moved, placed_field}
use Rattle.worksheet.proofs.EditLaws.{not_first, insert-put_after, remove-fields_without, find-at, set-at_field}
use Rattle.worksheet.proofs.MoveLaws.{put_either}
use Rattle.worksheet.proofs.Finds.{field_in-id}
use Rattle.worksheet.specs.inside.Entries.{shown, reserved, AreFields, IsAfter}
use Rattle.worksheet.proofs.Lookup.{flat, is_reserved, lookup-shown, lookup-absent, value_at, shown_at}
use Rattle.worksheet.proofs.EntryLaws.{entry_at, shown-set, Fits-set, shown-fill, Fits-fill, shown-move, Fits-move}
use Rattle.indexmap.specs.IndexMap.{set_value_at, move_index}
use Rattle.std.specs.Option.{option_map}

flips : (id k : ℕ) → nat_eq id k ≡ (k == id)
flips id k = grind (arith, nat_tests)

abbrev pub key_of : Field → ℕ
key_of field = field.id

pub found_there : (es : List (ℕ × Option Field)) (id : ℕ) → AreFields es → IsSome (field_in (shown es) id) → is_some (lookup (nat_eq id) es) ≡ true
found_there es id f t = go (lookup (nat_eq id) es) (lookup-shown key_of (nat_eq id) (λ k. k == id) (flips id) es f) t
  where
    go : (o : Option (Option Field)) → flat o ≡ field_in (shown es) id → IsSome (field_in (shown es) id) → is_some o ≡ true
    go None e t = cc
    go (Some o) e t = refl

pub found_within : (es : List (ℕ × Option Field)) (id at : ℕ) → AreFields es → IsSome (field_in (shown es) id) → slice_get (values_of es) at ≡ lookup (nat_eq id) es → at < length (shown es)
found_within es id at f t v = go (lookup (nat_eq id) es) v (lookup-shown key_of (nat_eq id) (λ k. k == id) (flips id) es f) t
  where
    go : (o : Option (Option Field)) → slice_get (values_of es) at ≡ o → flat o ≡ field_in (shown es) id → IsSome (field_in (shown es) id) → at < length (shown es)
    go None v e t = absurd cc
    go (Some None) v e t = absurd cc
    go (Some (Some x)) v e t = value_at key_of es at x f v

pub found_number : (es : List (ℕ × Option Field)) (id at : ℕ) (d : Field) → AreFields es → IsSome (field_in (shown es) id) → slice_get (values_of es) at ≡ lookup (nat_eq id) es
    → (get_or (shown es) at d).id ≡ id
found_number es id at d f t v = go (lookup (nat_eq id) es) v (lookup-shown key_of (nat_eq id) (λ k. k == id) (flips id) es f) t
  where
    go : (o : Option (Option Field)) → slice_get (values_of es) at ≡ o → flat o ≡ field_in (shown es) id → IsSome (field_in (shown es) id) → (get_or (shown es) at d).id ≡ id
    go None v e t = absurd cc
    go (Some None) v e t = absurd cc
    go (Some (Some x)) v e t = subst (λ (g : Field). g.id ≡ id) (sym (shown_at key_of es at x d f v)) (field_in-id (shown es) id x (sym e))

-- what is found under a number
pub found_under : (es : List (ℕ × Option Field)) (id : ℕ) → AreFields es → flat (lookup (nat_eq id) es) ≡ field_in (shown es) id
found_under es id f = lookup-shown key_of (nat_eq id) (λ k. k == id) (flips id) es f

-- nothing is under the next number, where it isn't reserved
none_next : (next : ℕ) (fs : List Field) → AllBelow next (numbers fs) → field_in fs next ≡ None
none_next next [] b = refl
none_next next (f ∷ fs) b = let l = b.0 in let n : (f.id == next) ≡ false = grind (arith, nat_tests) in rw n (none_next next fs b.1)

pub next_absent : (es : List (ℕ × Option Field)) (next : ℕ) → AreFields es → AllBelow next (numbers (shown es)) → is_number (reserved es) next ≡ false → lookup (nat_eq next) es ≡ None
next_absent es next f below h = lookup-absent key_of (nat_eq next) (λ k. k == next) (flips next) es f (none_next next (shown es) below) (go (reserved es) h)
  where
    go : (o : Option ℕ) → is_number o next ≡ false → is_reserved key_of (nat_eq next) (λ k. k == next) (flips next) o ≡ false
    go None e = refl
    go (Some k) e = flips next k ∙ e

-- a field goes from where it stands
pub gone : (fs : List Field) (id at : ℕ) → AreApart (numbers fs) → IsSome (field_in fs id) → at < length fs → ((d : Field) → (get_or fs at d).id ≡ id) → remove fs at ≡ fields_without id fs
gone fs id at a t h found = go (field_in fs id) t
  where
    go : (o : Option Field) → IsSome o → remove fs at ≡ fields_without id fs
    go None t = cc
    go (Some d) t = remove-fields_without id fs at d a h (found d)

-- and comes after another, or first
pub moves : (fs : List Field) (id after from to : ℕ) → AreApart (numbers fs) → IsSome (field_in fs id) → from < length fs → ((d : Field) → (get_or fs from d).id ≡ id) → (after == id) ≡ false
    → (following : ℕ) → (after ≡ 0 → following ≡ 0) → (after ≢ 0 → (d : Field) → IsAfter after following d fs) → (from < following → suc to ≡ following) → (following ≤ from → to ≡ following)
    → (d : Field) → insert (remove fs from) to (get_or fs from d) ≡ moved id after fs (field_in fs id)
moves fs id after from to a t h found other following first later down up d =
    rw (find-at id fs from d a h (found d)) (go after refl)
  where
    go : (n : ℕ) → after ≡ n → insert (remove fs from) to (get_or fs from d) ≡ placed_field after (get_or fs from d) (fields_without id fs)
    go zero z =
        let b = first z in let e : to ≡ 0 = up (omega (arith, b)) ∙ b in
        rw (z, e) (ap (λ (gs : List Field). get_or fs from d ∷ gs) (remove-fields_without id fs from d a h (found d)))
    go (suc n) z =
        let isnt : (after == 0) ≡ false = grind (arith, nat_tests) in
        let w = later (λ y. absurd (omega (arith, y, z))) d in
        rw isnt (put_either id after (get_or fs from d) fs from d a h (found d) w.0 w.2 w.3 other to
        (λ l. let k = down (omega (arith, w.1, l)) in omega (arith, k, w.1)) (λ l. up (omega (arith, w.1, l)) ∙ w.1))

-- the field at a place is changed
module _ (es : List (ℕ × Option Field)) (id at : ℕ) (change : Field → Field) (f : AreFields es) (h : at < length (shown es)) (kept : (x : Field) → (change x).id ≡ x.id)
    (old new : Option Field) (is : slice_get (values_of es) at ≡ Some old) (e : new ≡ option_map change old) where
  value_there : (es : List (ℕ × Option Field)) (at : ℕ) (d : Field) → AreFields es → at < length (shown es) → slice_get (values_of es) at ≡ Some (Some (get_or (shown es) at d))
  value_there [] at d f h = absurd (omega (arith, h))
  value_there ((k, None) ∷ es) at d f h = absurd (let z : length (shown es) ≡ 0 = rw f refl in omega (arith, z, h))
  value_there ((k, Some x) ∷ es) zero d f h = refl
  value_there ((k, Some x) ∷ es) (suc at) d f h = value_there es at d f.1 (omega (arith, h))

  written : (d : Field) → new ≡ Some (change (get_or (shown es) at d))
  written d = let same : Some old ≡ Some (Some (get_or (shown es) at d)) = sym is ∙ value_there es at d f h in let o : old ≡ Some (get_or (shown es) at d) = cc in e ∙ ap (option_map change) o

  pub changed-shown : AreApart (numbers (shown es)) → IsSome (field_in (shown es) id) → ((d : Field) → (get_or (shown es) at d).id ≡ id) → shown (set_value_at es at new) ≡ map (at_field id change) (shown es)
  changed-shown a t found = go (field_in (shown es) id) t
    where
      go : (o : Option Field) → IsSome o → shown (set_value_at es at new) ≡ map (at_field id change) (shown es)
      go None t = cc
      go (Some d) t = rw (written d) (shown-set key_of es at (change (get_or (shown es) at d)) f h ∙ set-at_field id change (shown es) at d a h (found d))

  pub changed-fields : IsSome (field_in (shown es) id) → AreFields (set_value_at es at new)
  changed-fields t = go (field_in (shown es) id) t
    where
      go : (o : Option Field) → IsSome o → AreFields (set_value_at es at new)
      go None t = cc
      go (Some d) t = rw (written d) (Fits-set key_of es at (change (get_or (shown es) at d)) d f h (kept (get_or (shown es) at d)))

-- the move of a field
module _ (es : List (ℕ × Option Field)) (id from to : ℕ) (f : AreFields es) (t : IsSome (field_in (shown es) id)) (h : from < length (shown es)) (g : to < length (shown es)) where
  pub moved-shown : (after : ℕ) → AreApart (numbers (shown es)) → ((d : Field) → (get_or (shown es) from d).id ≡ id) → (after == id) ≡ false
      → (following : ℕ) → (after ≡ 0 → following ≡ 0) → (after ≢ 0 → (d : Field) → IsAfter after following d (shown es)) → (from < following → suc to ≡ following) → (following ≤ from → to ≡ following)
      → shown (move_index es from to) ≡ moved id after (shown es) (field_in (shown es) id)
  moved-shown after a found other following first later down up = go (field_in (shown es) id) t
    where
      go : (o : Option Field) → IsSome o → shown (move_index es from to) ≡ moved id after (shown es) (field_in (shown es) id)
      go None t = cc
      go (Some d) s = shown-move key_of es from to d f h g ∙ moves (shown es) id after from to a t h found other following first later down up d

  pub moved-fields : AreFields (move_index es from to)
  moved-fields = go (field_in (shown es) id) t
    where
      go : (o : Option Field) → IsSome o → AreFields (move_index es from to)
      go None t = cc
      go (Some d) s = Fits-move key_of es from to d f h g

-- a field that comes to its place from the end
remove-end : {X : Type 0} (xs : List X) (x : X) → remove (xs ++ x ∷ []) (length xs) ≡ xs
remove-end [] x = refl
remove-end (y ∷ xs) x = ap (λ (ys : List _). y ∷ ys) (remove-end xs x)

get_or-end : {X : Type 0} (xs : List X) (x d : X) → get_or (xs ++ x ∷ []) (length xs) d ≡ x
get_or-end [] x d = refl
get_or-end (y ∷ xs) x d = get_or-end xs x d

placed-at : (fs : List Field) (after to : ℕ) (x : Field) → AreApart (numbers fs) → (after ≡ 0 → to ≡ 0) → (after ≢ 0 → (d : Field) → IsAfter after to d fs) → insert fs to x ≡ placed_field after x fs
placed-at fs after to x a first later = go after refl
  where
    go : (n : ℕ) → after ≡ n → insert fs to x ≡ placed_field after x fs
    go zero z = rw (first z, z) refl
    go (suc n) z =
        let isnt : (after == 0) ≡ false = grind (arith, nat_tests) in
        let w = later (λ y. absurd (omega (arith, y, z))) x in
        rw (isnt, w.1) (insert-put_after after x fs w.0 x a w.2 w.3)

module _ (es : List (ℕ × Option Field)) (x : Field) (to : ℕ) (f : AreFields es) (h : reserved es ≡ Some x.id) (within : to ≤ length (shown es)) where
  there : is_some (reserved es) ≡ true
  there = rw h refl

  abbrev filled : List (ℕ × Option Field)
  filled = set_value_at es (length (shown es)) (Some x)

  fits : AreFields filled
  fits = Fits-fill key_of es x f h

  seen : shown filled ≡ shown es ++ x ∷ []
  seen = shown-fill key_of es x f there

  longer : length (shown filled) ≡ suc (length (shown es))
  longer = let n = ap length seen ∙ length-append (shown es) (x ∷ []) in omega (arith, n)

  pub put-shown : (after : ℕ) → AreApart (numbers (shown es)) → (after ≡ 0 → to ≡ 0) → (after ≢ 0 → (d : Field) → IsAfter after to d (shown es))
      → shown (move_index (set_value_at es (length (shown es)) (Some x)) (length (shown es)) to) ≡ placed_field after x (shown es)
  put-shown after a first later =
      shown-move key_of filled (length (shown es)) to x fits (omega (arith, longer)) (omega (arith, longer, within))
      ∙ ap (λ (fs : List Field). insert (remove fs (length (shown es))) to (get_or fs (length (shown es)) x)) seen
      ∙ rw (remove-end (shown es) x, get_or-end (shown es) x x) (placed-at (shown es) after to x a first later)

  pub put-fields : AreFields (move_index (set_value_at es (length (shown es)) (Some x)) (length (shown es)) to)
  put-fields = Fits-move key_of filled (length (shown es)) to x fits (omega (arith, longer)) (omega (arith, longer, within))

-- what stands in front of a field
abbrev before_at : ℕ → List Field → ℕ → Field → ℕ
before_at before fs zero d = before
before_at before fs (suc i) d = (get_or fs i d).id

in_front-at : (id before : ℕ) (fs : List Field) (i : ℕ) (d : Field) → AreApart (numbers fs) → i < length fs → (get_or fs i d).id ≡ id → in_front before id (numbers fs) ≡ Some (before_at before fs i d)
in_front-at id before [] i d a h e = absurd (omega arith)
in_front-at id before (f ∷ fs) zero d a h e = let t : (f.id == id) ≡ true = grind (arith, nat_tests) in rw t refl
in_front-at id before (f ∷ fs) (suc i) d a h e = rw (not_first id f fs i d a.0 (omega arith) e) (in_front-at id f.id fs i d a.1 (omega arith) e ∙ go i)
  where
    go : (i : ℕ) → ◌≡◌ {A = Option ℕ} (Some (before_at f.id fs i d)) (Some (get_or (f ∷ fs) i d).id)
    go zero = refl
    go (suc j) = refl

module _ (es : List (ℕ × Option Field)) (id after at : ℕ) (f : AreFields es) (a : AreApart (numbers (shown es))) (t : IsSome (field_in (shown es) id))
    (h : at < length (shown es)) (found : (d : Field) → (get_or (shown es) at d).id ≡ id) where
  pub stands-first : at ≡ 0 → (after == 0) ≡ stands_after after id (numbers (shown es))
  stands-first z = go (field_in (shown es) id) t
    where
      go : (o : Option Field) → IsSome o → (after == 0) ≡ stands_after after id (numbers (shown es))
      go None t = cc
      go (Some d) s = rw (in_front-at id 0 (shown es) at d a h (found d), z) (flips after 0)

  pub stands-later : (before : ℕ) (slot : Option Field) → at ≢ 0 → slice_get es (at - 1) ≡ Some (before, slot) → (before == after) ≡ stands_after after id (numbers (shown es))
  stands-later before slot n e = go (field_in (shown es) id) t
    where
      go : (o : Option Field) → IsSome o → (before == after) ≡ stands_after after id (numbers (shown es))
      go None t = cc
      go (Some d) s = rw (in_front-at id 0 (shown es) at d a h (found d)) (by at refl)
        where
          by : (i : ℕ) → at ≡ i → (before == after) ≡ (before_at 0 (shown es) i d == after)
          by zero z = absurd (n z)
          by (suc j) z =
              let w = entry_at key_of es j d f (omega (arith, h, z)) in
              let g : slice_get es j ≡ Some (before, slot) = ap (slice_get es) (omega (arith, z)) ∙ e in
              let p : ◌≡◌ {A = ℕ × Option Field} (before, slot) ((get_or (shown es) j d).id, Some (get_or (shown es) j d)) = cc in
              ap (λ (q : ℕ × Option Field). q.0 == after) p
