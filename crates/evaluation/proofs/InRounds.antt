-- The fields that are to be evaluated, round by round.
use Rattle.std.proofs.Common.{◌≡◌, ◌⊎◌, inl, inr, ◌+◌, ◌≤◌, ◌<◌, ◌==◌, ℕ, zero, suc, Bool, true, false, List, [], ◌∷◌, ◌++◌, Some, None, Option, refl, ap, sym, ◌∙◌, subst, append_assoc, append-nil, add-one, length, arith, rules, map, take, slice_get, get_or, nat_cmp, is_lt, suc-le-suc, zero-le}
use Rattle.std.specs.Prelude.{◌≢◌, All, cond, eqb, nat_le}
use Rattle.std.proofs.lemmas.Bool.{ne_eqb}
use Rattle.std.proofs.lemmas.Bool.Decides.{eqb_tells, nat_tests}
use Rattle.std.proofs.lemmas.Slice.Eq.{bytes_eq-Decides}
use Rattle.std.specs.List.{filter, sum_by}
use Rattle.std.specs.List.Sorted.{IsNonDecreasingBy, IsPermutation, IsStableByKey, ties}
use Rattle.std.specs.Str.{bytes_eq}
use Rattle.std.proofs.lemmas.List.Sorted.{All-permutation, IsPermutation-refl, IsPermutation-sym, IsPermutation-cons, IsPermutation-append_left, IsPermutation-trans, IsPermutation-middle}
use Rattle.std.proofs.lemmas.List.{length-append, length-map, length-take}
use Rattle.std.proofs.lemmas.List.Sums.{count_by-le-length, sum_by-append}
use Rattle.worksheet.specs.Checks.{field_in}
use Rattle.worksheet.specs.declared.field.Field.{Field}
use Rattle.worksheet.specs.Contents.{Contents}
use Rattle.evaluation.specs.declared.plan.Plan.{Plan}
use Rattle.evaluation.specs.declared.rounds.Placed.{Placed}
use Rattle.evaluation.specs.Meant.{meant_in}
use Rattle.evaluation.specs.Rounds.{asking_order, by_rounds, count_of, placed_ids, in_round, in_rounds, is_field_of, of_its_session, order_by, round_of, with_rounds}

-- Each with its round.

rounds-push : (fields : List Field) (front ids : List ℕ) (id : ℕ) → with_rounds fields front (ids ++ id ∷ []) ≡ with_rounds fields front ids ++ record { round = round_of fields (front ++ ids) id; id = id } ∷ []
rounds-push fields front [] id = ap (λ (l : List ℕ). record { round = round_of fields l id; id = id } ∷ []) (sym (append-nil front))
rounds-push fields front (x ∷ ids) id =
    let p : Placed = record { round = round_of fields front x; id = x } in
    let more : List Placed = with_rounds fields (front ++ x ∷ []) ids in
    ap (λ (l : List Placed). p ∷ l) (rounds-push fields (front ++ x ∷ []) ids id)
    ∙ ap (λ (l : List ℕ). p ∷ (more ++ record { round = round_of fields l id; id = id } ∷ [])) (append_assoc front (x ∷ []) ids)

numbers-placed : (fields : List Field) (front ids : List ℕ) → placed_ids (with_rounds fields front ids) ≡ ids
numbers-placed fields front [] = refl
numbers-placed fields front (id ∷ ids) = ap (λ (l : List ℕ). id ∷ l) (numbers-placed fields (front ++ id ∷ []) ids)

placed-at : (fields : List Field) (front ids : List ℕ) (k : ℕ) (p : Placed) → slice_get (with_rounds fields front ids) k ≡ Some p → (slice_get ids k ≡ Some p.id) × (p.round ≡ round_of fields (front ++ take k ids) p.id)
placed-at fields front [] k p h = cc
placed-at fields front (id ∷ ids) zero p h =
    let is : record { round = round_of fields front id; id = id } ≡ p = cc in
    subst (λ (q : Placed). (Some id ≡ Some q.id) × (q.round ≡ round_of fields (front ++ []) q.id)) is (refl, ap (λ (l : List ℕ). round_of fields l id) (sym (append-nil front)))
placed-at fields front (id ∷ ids) (suc k) p h =
    let rest = placed-at fields (front ++ id ∷ []) ids k p h in
    (rest.0, rest.1 ∙ ap (λ (l : List ℕ). round_of fields l p.id) (append_assoc front (id ∷ []) (take k ids)))

taken : (xs : List ℕ) (k x : ℕ) → slice_get xs k ≡ Some x → take (k + 1) xs ≡ take k xs ++ x ∷ []
taken xs k x h = rw add-one (go xs k h)
  where
    go : (xs : List ℕ) (k : ℕ) → slice_get xs k ≡ Some x → take (suc k) xs ≡ take k xs ++ x ∷ []
    go [] k h = cc
    go (y ∷ xs) zero h = let e : y ≡ x = cc in ap (λ (z : ℕ). z ∷ []) e
    go (y ∷ xs) (suc k) h = ap (λ (l : List ℕ). y ∷ l) (go xs k h)

-- these have the rounds of their numbers
abbrev pub ArePlaced : List Field → List Placed → Type 0
ArePlaced fields all = all ≡ with_rounds fields [] (placed_ids all)

pub placed_again : (fields : List Field) (ids : List ℕ) (all : List Placed) → all ≡ with_rounds fields [] ids → ArePlaced fields all
placed_again fields ids all h = h ∙ ap (with_rounds fields []) (sym (numbers-placed fields [] ids) ∙ ap placed_ids (sym h))

pub one_placed : (fields : List Field) (ids : List ℕ) (at id : ℕ) (all more : List Placed) (p : Placed) → all ≡ with_rounds fields [] (take at ids) → slice_get ids at ≡ Some id → p.id ≡ id → p.round ≡ round_of fields (placed_ids all) id → more ≡ all ++ p ∷ []
    → more ≡ with_rounds fields [] (take (at + 1) ids)
one_placed fields ids at id all more p so there is round put =
    let front : placed_ids all ≡ take at ids = ap placed_ids so ∙ numbers-placed fields [] (take at ids) in
    let one : p ≡ record { round = round_of fields (take at ids) id; id = id } =
    ap (λ (n : ℕ). record { round = n; id = p.id }) (round ∙ ap (λ (l : List ℕ). round_of fields l id) front) ∙ ap (λ (n : ℕ). record { round = round_of fields (take at ids) id; id = n }) is in
    put ∙ ap (λ (l : List Placed). l ++ p ∷ []) so ∙ ap (λ (q : Placed). with_rounds fields [] (take at ids) ++ q ∷ []) one
    ∙ sym (rounds-push fields [] (take at ids) id) ∙ ap (with_rounds fields []) (sym (taken ids at id there))

-- The last one of a session.

same_name : (xs ys : List ℕ) → bytes_eq xs ys ≡ true → xs ≡ ys
same_name xs ys h = search (rules, bytes_eq-Decides)

abbrev once : Bool → ℕ
once b = cond b 1 0

count-push : (fields : List Field) (session ids : List ℕ) (id : ℕ) → count_of fields session (ids ++ id ∷ []) ≡ count_of fields session ids + once (is_field_of session (field_in fields id))
count-push fields session ids id =
    let test : ℕ → ℕ = λ x. once (is_field_of session (field_in fields x)) in
    let last : sum_by test (id ∷ []) ≡ 0 + test id = refl in
    omega (arith, sum_by-append test ids (id ∷ []), last)

its-round : (fields : List Field) (session front : List ℕ) (o : Option Field) → is_field_of session o ≡ true → of_its_session fields front o ≡ count_of fields session front
its-round fields session front None h = cc
its-round fields session front (Some field) h = ap (λ (s : List ℕ). count_of fields s front) (same_name field.session session h)

few-of : (fields : List Field) (front : List ℕ) (o : Option Field) → of_its_session fields front o ≤ length front
few-of fields front None = omega arith
few-of fields front (Some field) = count_by-le-length (λ (id : ℕ). is_field_of field.session (field_in fields id)) front

module _ (fields : List Field) (session : List ℕ) (all : List Placed) (so : ArePlaced fields all) where
  -- those from a place on aren't of the session
  abbrev pub AreOthers : ℕ → Type 0
  AreOthers at = count_of fields session (take at (placed_ids all)) ≡ count_of fields session (placed_ids all)

  there : (at : ℕ) (p : Placed) → slice_get all at ≡ Some p → (slice_get (placed_ids all) at ≡ Some p.id) × (p.round ≡ round_of fields (take at (placed_ids all)) p.id)
  there at p h = placed-at fields [] (placed_ids all) at p (ap (λ (l : List Placed). slice_get l at) (sym so) ∙ h)

  front-more : (at : ℕ) (p : Placed) → slice_get all at ≡ Some p → count_of fields session (take (at + 1) (placed_ids all)) ≡ count_of fields session (take at (placed_ids all)) + once (is_field_of session (field_in fields p.id))
  front-more at p h = ap (count_of fields session) (taken (placed_ids all) at p.id (there at p h).0) ∙ count-push fields session (take at (placed_ids all)) p.id

  pub another : (at : ℕ) (p : Placed) → slice_get all at ≡ Some p → is_field_of session (field_in fields p.id) ≡ false → AreOthers (at + 1) → AreOthers at
  another at p h not_it others =
      let none : once (is_field_of session (field_in fields p.id)) ≡ 0 = ap once not_it in
      omega (arith, front-more at p h, others, none)

  pub last_of : (at : ℕ) (p : Placed) → slice_get all at ≡ Some p → is_field_of session (field_in fields p.id) ≡ true → AreOthers (at + 1) → p.round + 1 ≡ count_of fields session (placed_ids all)
  last_of at p h it others =
      let one : once (is_field_of session (field_in fields p.id)) ≡ 1 = ap once it in
      let round = (there at p h).1 ∙ its-round fields session (take at (placed_ids all)) (field_in fields p.id) it in
      omega (arith, front-more at p h, others, one, round)

  pub round_low : (at : ℕ) (p : Placed) → slice_get all at ≡ Some p → p.round ≤ at
  round_low at p h = omega (arith, (there at p h).1, few-of fields (take at (placed_ids all)) (field_in fields p.id), length-take at (placed_ids all))

pub all_others : (fields : List Field) (session : List ℕ) (all : List Placed) (at : ℕ) → length all ≤ at → count_of fields session (take at (placed_ids all)) ≡ count_of fields session (placed_ids all)
all_others fields session all at h = ap (count_of fields session) (whole (placed_ids all) at (omega (arith, length-map all (λ (q : Placed). q.id), h)))
  where
    whole : (xs : List ℕ) (k : ℕ) → length xs ≤ k → take k xs ≡ xs
    whole [] zero h = refl
    whole [] (suc k) h = refl
    whole (x ∷ xs) zero h = absurd (omega (arith, h))
    whole (x ∷ xs) (suc k) h = let below : length xs ≤ k = omega (arith, h) in ap (λ (l : List ℕ). x ∷ l) (whole xs k below)

-- No field is left out, and none comes twice.

not-yet : (n round : ℕ) → n < round → eqb round n ≡ false
not-yet n round h = ne_eqb round n (λ e. omega (arith, h, e))

later-round : (p : Placed) (ps : List Placed) (n : ℕ) → n ≤ p.round → in_rounds (p ∷ ps) n ≡ in_rounds ps n
later-round p ps zero h = refl
later-round p ps (suc n) h =
    let no : (p.round == n) ≡ false = not-yet n p.round (omega (arith, h)) in
    let below : n ≤ p.round = omega (arith, h) in
    ap (λ (b : Bool). in_rounds (p ∷ ps) n ++ map (λ (q : Placed). q.id) (cond b (p ∷ filter (λ (q : Placed). q.round == n) ps) (filter (λ (q : Placed). q.round == n) ps))) no
    ∙ ap (λ (x : List ℕ). x ++ in_round ps n) (later-round p ps n below)

one-at : (p : Placed) (ps : List Placed) (n : ℕ) → p.round < suc n → ((eqb p.round n ≡ true) × (p.round ≡ n)) ⊎ ((eqb p.round n ≡ false) × (p.round ≢ n)) → (p.round < n → IsPermutation (p.id ∷ in_rounds ps n) (in_rounds (p ∷ ps) n))
    → IsPermutation (p.id ∷ in_rounds ps (suc n)) (in_rounds (p ∷ ps) (suc n))
one-at p ps n h (inl e) less =
    let others = filter (λ (q : Placed). q.round == n) ps in
    let before : in_rounds (p ∷ ps) n ≡ in_rounds ps n = later-round p ps n (omega (arith, e.1)) in
    subst (IsPermutation (p.id ∷ (in_rounds ps n ++ in_round ps n)))
    (ap (λ (x : List ℕ). x ++ p.id ∷ in_round ps n) (sym before) ∙ ap (λ (b : Bool). in_rounds (p ∷ ps) n ++ map (λ (q : Placed). q.id) (cond b (p ∷ others) others)) (sym e.0))
    (IsPermutation-sym (in_rounds ps n ++ p.id ∷ in_round ps n) (p.id ∷ (in_rounds ps n ++ in_round ps n)) (IsPermutation-middle (in_rounds ps n) p.id (in_round ps n)))
one-at p ps n h (inr e) less =
    let others = filter (λ (q : Placed). q.round == n) ps in
    let below : p.round < n = omega (arith, h, e.1) in
    subst (IsPermutation (p.id ∷ (in_rounds ps n ++ in_round ps n))) (ap (λ (b : Bool). in_rounds (p ∷ ps) n ++ map (λ (q : Placed). q.id) (cond b (p ∷ others) others)) (sym e.0))
    (IsPermutation-append_left (in_round ps n) (p.id ∷ in_rounds ps n) (in_rounds (p ∷ ps) n) (less below))

one-more : (p : Placed) (ps : List Placed) (n : ℕ) → p.round < n → IsPermutation (p.id ∷ in_rounds ps n) (in_rounds (p ∷ ps) n)
one-more p ps zero h = absurd (omega (arith, h))
one-more p ps (suc n) h = one-at p ps n h (eqb_tells p.round n) (λ below. one-more p ps n below)

-- all of these rounds are below a number
abbrev AreBelow : ℕ → List Placed → Type 0
AreBelow n [] = Unit {0}
AreBelow n (p ∷ ps) = (p.round < n) × AreBelow n ps

no-rounds : (n : ℕ) → in_rounds [] n ≡ []
no-rounds zero = refl
no-rounds (suc n) = ap (λ (x : List ℕ). x ++ []) (no-rounds n)

all-there : (n : ℕ) (ps : List Placed) → AreBelow n ps → IsPermutation (map (λ (q : Placed). q.id) ps) (in_rounds ps n)
all-there n [] h = subst (IsPermutation []) (sym (no-rounds n)) (IsPermutation-refl [])
all-there n (p ∷ ps) h =
    IsPermutation-trans (p.id ∷ map (λ (q : Placed). q.id) ps) (p.id ∷ in_rounds ps n) (in_rounds (p ∷ ps) n)
    (IsPermutation-cons p.id (map (λ (q : Placed). q.id) ps) (in_rounds ps n) (all-there n ps h.1)) (one-more p ps n h.0)

placed-below : (fields : List Field) (front ids : List ℕ) (n : ℕ) → length front + length ids ≤ n → AreBelow n (with_rounds fields front ids)
placed-below fields front [] n h = tt
placed-below fields front (id ∷ ids) n h =
    let few = few-of fields front (field_in fields id) in
    let rest : length (front ++ id ∷ []) + length ids ≤ n = omega (arith, h, length-append front (id ∷ [])) in
    (omega (arith, h, few), placed-below fields (front ++ id ∷ []) ids n rest)

placed-many : (fields : List Field) (front ids : List ℕ) → length (with_rounds fields front ids) ≡ length ids
placed-many fields front [] = refl
placed-many fields front (id ∷ ids) = ap suc (placed-many fields (front ++ id ∷ []) ids)

rounds-permute : (fields : List Field) (ids : List ℕ) → IsPermutation ids (by_rounds fields ids)
rounds-permute fields ids =
    let all = with_rounds fields [] ids in
    let most : 0 + length ids ≤ length all = omega (arith, placed-many fields [] ids) in
    subst (λ (l : List ℕ). IsPermutation l (by_rounds fields ids)) (numbers-placed fields [] ids) (all-there (length all) all (placed-below fields [] ids (length all) most))

order-permutes : (b : Bool) (fields : List Field) (ids : List ℕ) → IsPermutation ids (order_by b fields ids)
order-permutes true fields ids = IsPermutation-refl ids
order-permutes false fields ids = rounds-permute fields ids

pub order_permutes : (plan : Plan) (sheet : Contents) → IsPermutation (meant_in plan sheet) (asking_order plan sheet)
order_permutes plan sheet = order-permutes (nat_le plan.jobs 1) sheet.fields (meant_in plan sheet)

-- Sorted by their rounds.

-- no round of these is below a number
abbrev AreFrom : ℕ → List Placed → Type 0
AreFrom n [] = Unit {0}
AreFrom n (p ∷ ps) = (n ≤ p.round) × AreFrom n ps

abbrev Rises : List Placed → Type 0
Rises [] = Unit {0}
Rises (p ∷ ps) = AreFrom p.round ps × Rises ps

from-at : (n : ℕ) (ps : List Placed) (e : Placed) → ((j : ℕ) → j < length ps → n ≤ (get_or ps j e).round) → AreFrom n ps
from-at n [] e h = tt
from-at n (p ∷ ps) e h = (h zero (suc-le-suc zero-le), from-at n ps e (λ j lt. h (suc j) (suc-le-suc lt)))

rises : (ps : List Placed) → IsNonDecreasingBy (λ (p : Placed). p.round) ps → Rises ps
rises [] h = tt
rises (p ∷ ps) h = (
  from-at p.round ps p (λ j lt. h zero (suc j) p zero-le (suc-le-suc lt)),
  rises ps (λ i j d le lt. h (suc i) (suc j) d (suc-le-suc le) (suc-le-suc lt)),
)

none-in : (ps : List Placed) (n k : ℕ) → k < n → AreFrom n ps → in_round ps k ≡ []
none-in [] n k lt h = refl
none-in (p ∷ ps) n k lt h =
    let no : (p.round == k) ≡ false = not-yet k p.round (omega (arith, lt, h.0)) in
    ap (λ (b : Bool). map (λ (q : Placed). q.id) (cond b (p ∷ filter (λ (q : Placed). q.round == k) ps) (filter (λ (q : Placed). q.round == k) ps))) no ∙ none-in ps n k lt h.1

none-before : (ps : List Placed) (n k : ℕ) → k ≤ n → AreFrom n ps → in_rounds ps k ≡ []
none-before ps n zero le h = refl
none-before ps n (suc k) le h =
    let below : k ≤ n = omega (arith, le) in
    ap (λ (x : List ℕ). x ++ in_round ps k) (none-before ps n k below h) ∙ none-in ps n k (omega (arith, le)) h

head-at : (p : Placed) (ps : List Placed) (n : ℕ) → AreFrom p.round ps → p.round < suc n → ((eqb p.round n ≡ true) × (p.round ≡ n)) ⊎ ((eqb p.round n ≡ false) × (p.round ≢ n)) → (p.round < n → in_rounds (p ∷ ps) n ≡ p.id ∷ in_rounds ps n)
    → in_rounds (p ∷ ps) (suc n) ≡ p.id ∷ in_rounds ps (suc n)
head-at p ps n from h (inl e) less =
    let others = filter (λ (q : Placed). q.round == n) ps in
    let before : in_rounds (p ∷ ps) n ≡ [] = later-round p ps n (omega (arith, e.1)) ∙ none-before ps p.round n (omega (arith, e.1)) from in
    let following : in_rounds ps n ≡ [] = none-before ps p.round n (omega (arith, e.1)) from in
    ap (λ (b : Bool). in_rounds (p ∷ ps) n ++ map (λ (q : Placed). q.id) (cond b (p ∷ others) others)) e.0 ∙ ap
    (λ (x : List ℕ). x ++ p.id ∷ in_round ps n) before ∙ ap (λ (x : List ℕ). p.id ∷ (x ++ in_round ps n)) (sym following)
head-at p ps n from h (inr e) less =
    let others = filter (λ (q : Placed). q.round == n) ps in
    ap (λ (b : Bool). in_rounds (p ∷ ps) n ++ map (λ (q : Placed). q.id) (cond b (p ∷ others) others)) e.0 ∙ ap (λ (x : List ℕ). x ++ in_round ps n) (less (omega (arith, h, e.1)))

head-first : (p : Placed) (ps : List Placed) (n : ℕ) → AreFrom p.round ps → p.round < n → in_rounds (p ∷ ps) n ≡ p.id ∷ in_rounds ps n
head-first p ps zero from h = absurd (omega (arith, h))
head-first p ps (suc n) from h = head-at p ps n from h (eqb_tells p.round n) (λ below. head-first p ps n from below)

in-turn : (ps : List Placed) (n : ℕ) → Rises ps → AreBelow n ps → placed_ids ps ≡ in_rounds ps n
in-turn [] n rise below = sym (no-rounds n)
in-turn (p ∷ ps) n rise below = ap (λ (l : List ℕ). p.id ∷ l) (in-turn ps n rise.1 below.1) ∙ sym (head-first p ps n rise.0 below.0)

abbrev same_round : Placed → Placed → Bool
same_round = ties (λ x y. is_lt (nat_cmp x.round y.round))

ties_at : (m n : ℕ) → ties (λ x y. is_lt (nat_cmp x y)) m n ≡ (n == m)
ties_at m n = grind (arith, nat_tests)

filter-same : (p q : Placed → Bool) → ((x : Placed) → p x ≡ q x) → (xs : List Placed) → filter p xs ≡ filter q xs
filter-same p q e [] = refl
filter-same p q e (x ∷ xs) = ap (λ (b : Bool). cond b (x ∷ filter p xs) (filter p xs)) (e x) ∙ ap (λ (l : List Placed). cond (q x) (x ∷ l) l) (filter-same p q e xs)

same-rounds : (xs ys : List Placed) → IsStableByKey (λ (p : Placed). p.round) nat_cmp xs ys → (n : ℕ) → in_round ys n ≡ in_round xs n
same-rounds xs ys stable n =
    let x : Placed = record { round = n; id = 0 } in
    let only : (l : List Placed) → filter (same_round x) l ≡ filter (λ (q : Placed). q.round == n) l = filter-same (same_round x) (λ (q : Placed). q.round == n) (λ q. ties_at n q.round) in
    ap (map (λ (q : Placed). q.id)) (sym (only ys) ∙ stable x ∙ only xs)

same-order : (xs ys : List Placed) → IsStableByKey (λ (p : Placed). p.round) nat_cmp xs ys → (n : ℕ) → in_rounds ys n ≡ in_rounds xs n
same-order xs ys stable zero = refl
same-order xs ys stable (suc n) = ap (λ (l : List ℕ). l ++ in_round ys n) (same-order xs ys stable n) ∙ ap (λ (l : List ℕ). in_rounds xs n ++ l) (same-rounds xs ys stable n)

below-at : (n : ℕ) (ps : List Placed) → AreBelow n ps → (k : ℕ) (d : Placed) → k < length ps → (get_or ps k d).round < n
below-at n [] h k d lt = absurd (omega (arith, lt))
below-at n (p ∷ ps) h zero d lt = h.0
below-at n (p ∷ ps) h (suc k) d lt = let less : k < length ps = omega (arith, lt) in below-at n ps h.1 k d less

at-below : (n : ℕ) (ps : List Placed) → All (λ (p : Placed). p.round < n) ps → AreBelow n ps
at-below n [] h = tt
at-below n (p ∷ ps) h = (h zero p (suc-le-suc zero-le), at-below n ps (λ k d lt. h (suc k) d (suc-le-suc lt)))

-- sorted by their rounds they stand round by round
pub sorted_by_rounds : (fields : List Field) (ids : List ℕ) (all sorted : List Placed) → all ≡ with_rounds fields [] ids → IsPermutation all sorted → IsNonDecreasingBy (λ (p : Placed). p.round) sorted → IsStableByKey (λ (p : Placed). p.round) nat_cmp all sorted
    → placed_ids sorted ≡ by_rounds fields ids
sorted_by_rounds fields ids all sorted is moved rise stable =
    let n : ℕ = length (with_rounds fields [] ids) in
    let most : 0 + length ids ≤ n = omega (arith, placed-many fields [] ids) in
    let below : AreBelow n all = subst (λ (l : List Placed). AreBelow n l) (sym is) (placed-below fields [] ids n most) in
    let still : AreBelow n sorted = at-below n sorted (All-permutation (λ (p : Placed). p.round < n) all sorted moved (below-at n all below)) in
    in-turn sorted n (rises sorted rise) still ∙ same-order all sorted stable n ∙ ap (λ (l : List Placed). in_rounds l n) is
