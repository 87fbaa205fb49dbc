-- The nearest smaller number in front of each field's.
use Rattle.std.proofs.Common.{◌≡◌, ◌<◌, ◌≤◌, ◌==◌, ℕ, Bool, true, false, List, [], ◌∷◌, ◌++◌, length, get_or, set, Some, refl, sym, ap, ◌∙◌, subst, arith, append_assoc, append-nil, if◌then◌else◌}
use Rattle.std.specs.Prelude.{nat_lt}
use Rattle.std.specs.List.{AllByRecursion}
use Rattle.std.proofs.lemmas.Bool.Decides.{nat_tests}
use Rattle.std.proofs.lemmas.List.{get_or-set_same, get_or-set_other, length-set}
use Rattle.worksheet.specs.declared.field.Field.{Field}
use Rattle.worksheet.specs.Contents.{Contents}
use Rattle.worksheet.specs.Checks.{field_in, numbers}
use Rattle.worksheet.specs.Edits.{AllBelow, AreApart, HasNumbersApart, Lacks}
use Rattle.worksheet.specs.Rewrite.{smaller_before}
use Rattle.recovery.specs.inside.Afters.{AreAfters, last_below}

-- The numbers that are kept.

below_push : (found id n : ℕ) (ns : List ℕ) → last_below found id (ns ++ n ∷ []) ≡ (if nat_lt n id then n else last_below found id ns)
below_push found id n [] = refl
below_push found id n (m ∷ ns) = go (nat_lt m id) (below_push m id n ns) (below_push found id n ns)
  where
    go : (b : Bool) → last_below m id (ns ++ n ∷ []) ≡ (if nat_lt n id then n else last_below m id ns) → last_below found id (ns ++ n ∷ []) ≡ (if nat_lt n id then n else last_below found id ns)
        → (if b then last_below m id (ns ++ n ∷ []) else last_below found id (ns ++ n ∷ [])) ≡ (if nat_lt n id then n else if b then last_below m id ns else last_below found id ns)
    go true one two = one
    go false one two = two

is_below : (n id : ℕ) → n < id → nat_lt n id ≡ true
is_below n id less = grind (arith, nat_tests, less)

is_not_below : (n id : ℕ) → id ≤ n → nat_lt n id ≡ false
is_not_below n id more = grind (arith, nat_tests, more)

-- those that are left give for each number up to this one what they gave before
abbrev pub TellsAlike : ℕ → List ℕ → List ℕ → Type 0
TellsAlike id old new = (other : ℕ) → other ≤ id → last_below 0 other new ≡ last_below 0 other old

-- one that isn't below it is dropped
pub dropped : (id last : ℕ) (old new left : List ℕ) → TellsAlike id old new → new ≡ left ++ last ∷ [] → id ≤ last → TellsAlike id old left
dropped id last old new left alike is more other small =
    let push = below_push 0 other last left in
    let none = is_not_below last other (omega (arith, small, more)) in
    sym (rw none at push) ∙ ap (λ (l : List ℕ). last_below 0 other l) (sym is) ∙ alike other small

-- one that is below it is what stands in front of it
pub in_front_of : (id last : ℕ) (old new left : List ℕ) → TellsAlike id old new → new ≡ left ++ last ∷ [] → last < id → last ≡ last_below 0 id old
in_front_of id last old new left alike is less =
    let push = below_push 0 id last left in
    let one = is_below last id less in
    sym (rw one at push) ∙ ap (λ (l : List ℕ). last_below 0 id l) (sym is) ∙ alike id (omega arith)

-- after those that are left it stands as it would after them all
pub put_after : (id : ℕ) (old new : List ℕ) → TellsAlike id old new → (other : ℕ) → last_below 0 other (new ++ id ∷ []) ≡ last_below 0 other (old ++ id ∷ [])
put_after id old new alike other = rw (below_push 0 other id new, below_push 0 other id old) (go (nat_lt id other) refl)
  where
    go : (b : Bool) → nat_lt id other ≡ b → (if b then id else last_below 0 other new) ≡ (if b then id else last_below 0 other old)
    go true e = refl
    go false e = alike other (grind (arith, nat_tests, e))

-- Numbers that are apart.

same_both : (n m : ℕ) → (n == m) ≡ false → (m == n) ≡ false
same_both n m e = grind (arith, nat_tests, e)

-- where a number isn't among those in front, what is after it doesn't matter
before_it : (found id : ℕ) (front rest : List ℕ) → Lacks id front → smaller_before found id (front ++ id ∷ rest) ≡ last_below found id front
before_it found id [] rest lacks = let here : (id == id) ≡ true = grind (arith, nat_tests) in rw here refl
before_it found id (n ∷ front) rest lacks = rw lacks.0 (go (nat_lt n id) (before_it n id front rest lacks.1) (before_it found id front rest lacks.1))
  where
    go : (b : Bool) → smaller_before n id (front ++ id ∷ rest) ≡ last_below n id front → smaller_before found id (front ++ id ∷ rest) ≡ last_below found id front
        → (if b then smaller_before n id (front ++ id ∷ rest) else smaller_before found id (front ++ id ∷ rest)) ≡ (if b then last_below n id front else last_below found id front)
    go true one two = one
    go false one two = two

lacks_it : (n id : ℕ) (front rest : List ℕ) → Lacks n (front ++ id ∷ rest) → (n == id) ≡ false
lacks_it n id [] rest lacks = same_both id n lacks.0
lacks_it n id (m ∷ front) rest lacks = lacks_it n id front rest lacks.1

lacks_front : (id : ℕ) (front rest : List ℕ) → AreApart (front ++ id ∷ rest) → Lacks id front
lacks_front id [] rest apart = tt
lacks_front id (n ∷ front) rest apart = (lacks_it n id front rest apart.0, lacks_front id front rest apart.1)

below_it : (bound id : ℕ) (front rest : List ℕ) → AllBelow bound (front ++ id ∷ rest) → id < bound
below_it bound id [] rest below = below.0
below_it bound id (n ∷ front) rest below = below_it bound id front rest below.1

-- One field after another.

-- at the place of a number stands what is smaller in front of it
abbrev IsAfter : List ℕ → List ℕ → ℕ → Type 0
IsAfter all afters id = get_or afters id 0 ≡ smaller_before 0 id all

others_stay : (all afters front : List ℕ) (id after : ℕ) → Lacks id front → AllByRecursion (IsAfter all afters) front → AllByRecursion (IsAfter all (set afters id after)) front
others_stay all afters [] id after lacks each = tt
others_stay all afters (n ∷ front) id after lacks each =
    (get_or-set_other afters id n after 0 (λ e. absurd (grind (arith, nat_tests, lacks.0, e))) ∙ each.0, others_stay all afters front id after lacks.1 each.1)

all_push : (P : ℕ → Type 0) (front : List ℕ) (id : ℕ) → AllByRecursion P front → P id → AllByRecursion P (front ++ id ∷ [])
all_push P [] id each one = (one, tt)
all_push P (n ∷ front) id each one = (each.0, all_push P front id each.1 one)

-- the fields in front have their places, and the numbers that are kept tell what they tell
pub record PlacedSoFar (sheet : Contents) (rest : List Field) (smaller afters : List ℕ) : Type 0 where
  pub front : List ℕ
  pub split : front ++ numbers rest ≡ numbers sheet.fields
  pub tells : (other : ℕ) → last_below 0 other smaller ≡ last_below 0 other front
  pub places : length afters ≡ sheet.next
  pub each : AllByRecursion (IsAfter (numbers sheet.fields) afters) front

pub has_its_place : (sheet : Contents) (rest more : List Field) (f : Field) (smaller afters : List ℕ) → HasNumbersApart sheet → PlacedSoFar sheet rest smaller afters → rest ≡ f ∷ more → f.id < length afters
has_its_place sheet rest more f smaller afters apart so_far is =
    let split : so_far.front ++ f.id ∷ numbers more ≡ numbers sheet.fields = ap (λ (l : List Field). so_far.front ++ numbers l) (sym is) ∙ so_far.split in
    omega (arith, so_far.places, below_it sheet.next f.id so_far.front (numbers more) (subst (AllBelow sheet.next) (sym split) apart.below))

pub one_placed : (sheet : Contents) (rest more : List Field) (f : Field) (after : ℕ) (smaller new afters changed : List ℕ) → HasNumbersApart sheet → PlacedSoFar sheet rest smaller afters → rest ≡ f ∷ more
    → after ≡ last_below 0 f.id smaller → ((other : ℕ) → last_below 0 other new ≡ last_below 0 other (smaller ++ f.id ∷ [])) → changed ≡ set afters f.id after → PlacedSoFar sheet more new changed
one_placed sheet rest more f after smaller new afters changed apart so_far is found tells set_is =
    let split : so_far.front ++ f.id ∷ numbers more ≡ numbers sheet.fields = ap (λ (l : List Field). so_far.front ++ numbers l) (sym is) ∙ so_far.split in
    let lacks = lacks_front f.id so_far.front (numbers more) (subst AreApart (sym split) apart.apart) in
    let place = has_its_place sheet rest more f smaller afters apart so_far is in
    record {
      front = so_far.front ++ f.id ∷ [];
      split = append_assoc so_far.front (f.id ∷ []) (numbers more) ∙ split;
      tells = λ other. tells other ∙ rw (below_push 0 other f.id smaller, below_push 0 other f.id so_far.front, so_far.tells other) refl;
      places = ap length set_is ∙ length-set afters f.id after ∙ so_far.places;
      each = subst (λ (l : List ℕ). AllByRecursion (IsAfter (numbers sheet.fields) l) (so_far.front ++ f.id ∷ [])) (sym set_is)
          (all_push (IsAfter (numbers sheet.fields) (set afters f.id after)) so_far.front f.id (others_stay (numbers sheet.fields) afters so_far.front f.id after lacks so_far.each)
          (get_or-set_same afters f.id after 0 place ∙ found ∙ so_far.tells f.id ∙ sym (before_it 0 f.id so_far.front (numbers more) lacks) ∙ ap (λ (l : List ℕ). smaller_before 0 f.id l) split));
    }

pub all_placed : (sheet : Contents) (smaller afters : List ℕ) → PlacedSoFar sheet [] smaller afters → AreAfters afters sheet
all_placed sheet smaller afters so_far = record {
  places = so_far.places;
  each = subst (AllByRecursion (IsAfter (numbers sheet.fields) afters)) (sym (append-nil so_far.front) ∙ so_far.split) so_far.each;
}

-- The place of a field that is found.

found_place : (P : ℕ → Type 0) (fields : List Field) (id : ℕ) (f : Field) → AllByRecursion P (numbers fields) → field_in fields id ≡ Some f → P id × (f.id ≡ id)
found_place P [] id f each e = cc
found_place P (g ∷ fields) id f each e = go (g.id == id) refl (found_place P fields id f each.1) e
  where
    go : (b : Bool) → (g.id == id) ≡ b → (field_in fields id ≡ Some f → P id × (f.id ≡ id)) → (if b then Some g else field_in fields id) ≡ Some f → P id × (f.id ≡ id)
    go true t rest is =
        let here : g.id ≡ id = grind (arith, nat_tests, t) in
        let same : g ≡ f = cc in
        (subst P here each.0, ap (λ (h : Field). h.id) (sym same) ∙ here)
    go false t rest is = rest is

pub after_found : (sheet : Contents) (afters : List ℕ) (id : ℕ) (f : Field) → AreAfters afters sheet → field_in sheet.fields id ≡ Some f → get_or afters id 0 ≡ smaller_before 0 f.id (numbers sheet.fields)
after_found sheet afters id f are e =
    let found = found_place (IsAfter (numbers sheet.fields) afters) sheet.fields id f are.each e in
    found.0 ∙ ap (λ (n : ℕ). smaller_before 0 n (numbers sheet.fields)) (sym found.1)
