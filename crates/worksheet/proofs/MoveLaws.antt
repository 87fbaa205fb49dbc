-- A field that moves, by its place and by its number.
use Rattle.std.proofs.Common.{◌≡◌, ℕ, ◌<◌, ◌≤◌, List, [], ◌∷◌, length, get_or, refl, ap, sym, ◌∙◌, subst, arith, Bool, true, false, zero, suc, insert, remove}
use Rattle.std.specs.Prelude.{◌==◌, nat_eq, nat_lt}
use Rattle.std.proofs.lemmas.Bool.Decides.{nat_tests}
use Rattle.std.proofs.lemmas.List.Edits.{get_or-remove_below, get_or-remove_above}
use Rattle.worksheet.specs.declared.field.Field.{Field}
use Rattle.worksheet.specs.Ops.{put_after}
use Rattle.worksheet.specs.Checks.{numbers}
use Rattle.worksheet.specs.Edits.{AreApart, fields_without}
use Rattle.worksheet.proofs.EditLaws.{insert-put_after, remove-fields_without}
use Rattle.worksheet.proofs.SoundLaws.{AreApart-without}

length-remove : {X : Type 0} (xs : List X) (i : ℕ) → i < length xs → suc (length (remove xs i)) ≡ length xs
length-remove [] i h = absurd (omega arith)
length-remove (x ∷ xs) zero h = refl
length-remove (x ∷ xs) (suc i) h = ap suc (length-remove xs i (omega arith))

-- A field comes directly after another, that stood at b, where it is taken out of its place.
module _ (id after : ℕ) (x : Field) (fs : List Field) (from : ℕ) (d : Field) (a : AreApart (numbers fs)) (h : from < length fs) (e : (get_or fs from d).id ≡ id) where
  put_at : (j : ℕ) → j < length (remove fs from) → (get_or (remove fs from) j d).id ≡ after
      → insert (remove fs from) (suc j) x ≡ put_after (λ other. other.id == after) x (fields_without id fs)
  put_at j l g =
      let same : remove fs from ≡ fields_without id fs = remove-fields_without id fs from d a h e in
      let apart : AreApart (numbers (remove fs from)) = subst (λ (gs : List Field). AreApart (numbers gs)) (sym same) (AreApart-without id fs a) in
      insert-put_after after x (remove fs from) j d apart l g ∙ ap (λ (gs : List Field). put_after (λ other. other.id == after) x gs) same

  -- it stood after it
  put_down : (b : ℕ) → b < from → (get_or fs b d).id ≡ after → insert (remove fs from) (suc b) x ≡ put_after (λ other. other.id == after) x (fields_without id fs)
  put_down b l g =
      let n = length-remove fs from h in
      put_at b (omega (arith, n, l, h)) (subst (λ (f : Field). f.id ≡ after) (sym (get_or-remove_below fs from d b l h)) g)

  -- it stood in front of it
  put_up : (c : ℕ) → from ≤ c → suc c < length fs → (get_or fs (suc c) d).id ≡ after → insert (remove fs from) (suc c) x ≡ put_after (λ other. other.id == after) x (fields_without id fs)
  put_up c l k g =
      let n = length-remove fs from h in
      let there : get_or (remove fs from) c d ≡ get_or fs (suc c) d = get_or-remove_above fs from d c l h ∙ ap (λ i. get_or fs i d) (omega arith) in
      put_at c (omega (arith, n, k)) (subst (λ (f : Field). f.id ≡ after) (sym there) g)

  pub put_either : (b : ℕ) → b < length fs → (get_or fs b d).id ≡ after → (after == id) ≡ false → (to : ℕ) → (from < suc b → to ≡ b) → (suc b ≤ from → to ≡ suc b)
      → insert (remove fs from) to x ≡ put_after (λ other. other.id == after) x (fields_without id fs)
  put_either zero k g other to up down = go from refl
    where
      go : (n : ℕ) → from ≡ n → insert (remove fs from) to x ≡ put_after (λ other. other.id == after) x (fields_without id fs)
      go zero z = absurd (let same : id ≡ after = sym e ∙ ap (λ i. (get_or fs i d).id) z ∙ g in grind (arith, nat_tests))
      go (suc n) z = let t = down (omega (arith, z)) in rw t (put_down zero (omega (arith, z)) g)
  put_either (suc c) k g other to up down = go (nat_lt (suc c) from) refl
    where
      go : (b : Bool) → nat_lt (suc c) from ≡ b → insert (remove fs from) to x ≡ put_after (λ other. other.id == after) x (fields_without id fs)
      go true z = let l : suc c < from = grind (arith, nat_tests) in let t = down (omega (arith, l)) in rw t (put_down (suc c) l g)
      go false z =
          let l : from ≤ suc c = grind (arith, nat_tests) in
          let t = up (omega (arith, l)) in rw t (equal (nat_eq from (suc c)) refl)
        where
          equal : (b : Bool) → nat_eq from (suc c) ≡ b → insert (remove fs from) (suc c) x ≡ put_after (λ other. other.id == after) x (fields_without id fs)
          equal true y = absurd (let w : from ≡ suc c = grind (arith, nat_tests) in let same : id ≡ after = sym e ∙ ap (λ i. (get_or fs i d).id) w ∙ g in grind (arith, nat_tests))
          equal false y = let l : from ≤ c = grind (arith, nat_tests, up) in put_up c l k g
