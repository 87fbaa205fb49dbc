-- Fields that are asked together, one after another.
use Rattle.std.proofs.Common.{◌≡◌, ◌∙◌, ◌+◌, ◌≤◌, ℕ, zero, suc, Bool, true, false, List, [], ◌∷◌, ◌++◌, Some, add-one, ap, arith, drop, length, refl, slice_get, sym, take}
use Rattle.std.proofs.lemmas.List.{drop_more}
use Rattle.std.proofs.lemmas.Option.{get_or_from_slice_get, slice_get_within}
use Rattle.std.specs.Prelude.{if◌then◌else◌}
use Rattle.worksheet.specs.Checks.{field_in}
use Rattle.worksheet.specs.declared.field.Field.{Field}
use Rattle.evaluation.specs.Lasts.{after_asking}
use Rattle.evaluation.specs.declared.lasts.Last.{Last}
use Rattle.field_agenda.specs.Standing.{lasts_after}
use Rattle.field_agenda.specs.Together.{with_those_that_go}

-- what is left from this place on begins with the number there
left_at : (ids : List ℕ) (at id : ℕ) → slice_get ids at ≡ Some id → drop at ids ≡ id ∷ drop (at + 1) ids
left_at ids at id there =
    drop_more ids at id (slice_get_within ids at id there) ∙ ap (λ (x : ℕ). x ∷ drop (at + 1) ids) (get_or_from_slice_get ids at id id there)

-- the next one goes with these, or it doesn't
next_by : (goes : List ℕ → ℕ → Bool) (group rest : List ℕ) (id : ℕ) (b : Bool) → goes group id ≡ b → with_those_that_go goes group (id ∷ rest) ≡ (if b then with_those_that_go goes (group ++ id ∷ []) rest else group)
next_by goes group rest id b is = ap (λ (x : Bool). if x then with_those_that_go goes (group ++ id ∷ []) rest else group) is

pub one_more : (goes : List ℕ → ℕ → Bool) (group ids : List ℕ) (at id : ℕ) → slice_get ids at ≡ Some id → goes group id ≡ true
    → with_those_that_go goes (group ++ id ∷ []) (drop (at + 1) ids) ≡ with_those_that_go goes group (drop at ids)
one_more goes group ids at id there is = sym (ap (with_those_that_go goes group) (left_at ids at id there) ∙ next_by goes group (drop (at + 1) ids) id true is)

pub no_more : (goes : List ℕ → ℕ → Bool) (group ids : List ℕ) (at id : ℕ) → slice_get ids at ≡ Some id → goes group id ≡ false
    → group ≡ with_those_that_go goes group (drop at ids)
no_more goes group ids at id there is = sym (ap (with_those_that_go goes group) (left_at ids at id there) ∙ next_by goes group (drop (at + 1) ids) id false is)

drop_all : (ids : List ℕ) (at : ℕ) → length ids ≤ at → drop at ids ≡ []
drop_all [] zero long = refl
drop_all [] (suc at) long = refl
drop_all (x ∷ ids) zero long = absurd (omega (arith, long))
drop_all (x ∷ ids) (suc at) long = drop_all ids at (omega (arith, long))

pub none_left : (goes : List ℕ → ℕ → Bool) (group ids : List ℕ) (at : ℕ) → length ids ≤ at → group ≡ with_those_that_go goes group (drop at ids)
none_left goes group ids at long = sym (ap (with_those_that_go goes group) (drop_all ids at long))

-- which were asked last, one field later
lasts_on : (lasts : List Last) (fields : List Field) (front : List ℕ) (id : ℕ) → lasts_after lasts fields (front ++ id ∷ []) ≡ after_asking (lasts_after lasts fields front) (field_in fields id)
lasts_on lasts fields [] id = refl
lasts_on lasts fields (x ∷ front) id = lasts_on (after_asking lasts (field_in fields x)) fields front id

taken : (xs : List ℕ) (k x : ℕ) → slice_get xs k ≡ Some x → take (k + 1) xs ≡ take k xs ++ x ∷ []
taken xs k x h = rw add-one (go xs k h)
  where
    go : (xs : List ℕ) (k : ℕ) → slice_get xs k ≡ Some x → take (suc k) xs ≡ take k xs ++ x ∷ []
    go [] k h = cc
    go (y ∷ xs) zero h = let e : y ≡ x = cc in ap (λ (z : ℕ). z ∷ []) e
    go (y ∷ xs) (suc k) h = ap (λ (l : List ℕ). y ∷ l) (go xs k h)

pub lasts_next : (lasts : List Last) (fields : List Field) (ids : List ℕ) (at id : ℕ) (asked more : List Last) → slice_get ids at ≡ Some id → asked ≡ lasts_after lasts fields (take at ids)
    → more ≡ after_asking asked (field_in fields id) → more ≡ lasts_after lasts fields (take (at + 1) ids)
lasts_next lasts fields ids at id asked more there so is =
    is ∙ ap (λ (l : List Last). after_asking l (field_in fields id)) so ∙ sym (lasts_on lasts fields (take at ids) id) ∙ ap (lasts_after lasts fields) (sym (taken ids at id there))

-- the group begins with the first of them
pub begins : (goes : List ℕ → ℕ → Bool) (ids group : List ℕ) (from x id : ℕ) → group ≡ x ∷ [] → slice_get ids from ≡ Some x → slice_get ids from ≡ Some id
    → with_those_that_go goes group (drop (from + 1) ids) ≡ with_those_that_go goes (id ∷ []) (drop (from + 1) ids)
begins goes ids group from x id is there same =
    let equal : Some x ≡ Some id = sym there ∙ same in
    let number : x ≡ id = cc in
    ap (λ (l : List ℕ). with_those_that_go goes l (drop (from + 1) ids)) (is ∙ ap (λ (n : ℕ). n ∷ []) number)
