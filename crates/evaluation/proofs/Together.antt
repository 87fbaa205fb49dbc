-- Fields that wait side by side.
use Rattle.std.proofs.Common.{◌≡◌, ◌⊎◌, inl, inr, ◌+◌, ◌-◌, ◌≤◌, ◌<◌, ℕ, Bool, true, false, List, [], ◌∷◌, Option, Some, None, refl, ap, sym, ◌∙◌, subst, length, arith, slice_get, nat_lt}
use Rattle.std.specs.Prelude.{◌==◌, ◌&&◌, ◌≢◌, cond, eqb, is_some, not, option_map}
use Rattle.std.proofs.lemmas.Bool.{and_parts, cases_lt, lt-ltb, ltb-true}
use Rattle.std.proofs.lemmas.Bool.Decides.{eqb_tells}
use Rattle.std.proofs.lemmas.Option.{slice_get_within}
use Rattle.std.proofs.lemmas.List.{length-append}
use Rattle.worksheet.specs.declared.field.Field.{Field}
use Rattle.worksheet.specs.declared.field.Session.{Session}
use Rattle.session_engine.specs.declared.host.LifeView.{LifeView}
use Rattle.session_engine.specs.World.{World, life_of, sheet_in}
use Rattle.child_calls.specs.declared.seat.Seat.{Seat}
use Rattle.child_edge.specs.Seats.{life_view, seat, seat_of, seats_of, waits}
use Rattle.evaluation.specs.declared.plan.Plan.{Plan}
use Rattle.evaluation.specs.declared.plan.Stand.{Stand}
use Rattle.evaluation.specs.Meant.{IsAsked, is_passed, stop_field}
use Rattle.evaluation.specs.Beside.{NoneJoins, has_room_beside, is_busy, is_waiting_one, joins}
use Rattle.evaluation.specs.inside.Beside.{NoneBetween, SeatsLeft, is_due, one_if}
use Rattle.evaluation.proofs.Meaning.{next_here}

-- In how many sessions items wait.

seat-if : (b : Bool) (s : Seat) → length (cond b (s ∷ []) []) ≡ one_if b
seat-if true s = refl
seat-if false s = refl

seat-count : (name : List ℕ) (v : Option LifeView) → length (seat_of name v) ≡ one_if (is_busy v)
seat-count name None = refl
seat-count name (Some l) = seat-if (nat_lt 0 l.waiting) (seat name l.number)

pub seats_begin : (most : ℕ) (w : World) (rest : List Session) → rest ≡ (sheet_in w).sessions → SeatsLeft most w rest most
unfolding waits
seats_begin most w rest e =
    let all : length (seats_of w rest) ≡ length (waits w) = ap (λ (ss : List Session). length (seats_of w ss)) e in
    record { fits = omega (arith, all); is = omega (arith, all) }

pub seats_next : (most : ℕ) (w : World) (s : Session) (rest more : List Session) (v : Option LifeView) (left next : ℕ) → rest ≡ s ∷ more → v ≡ option_map life_view (life_of w s.name)
    → next ≡ left - one_if (is_busy v) → SeatsLeft most w rest left → SeatsLeft most w more next
seats_next most w s rest more v left next e n is so =
    let split : length (seats_of w rest) ≡ one_if (is_busy v) + length (seats_of w more) =
    ap (λ (ss : List Session). length (seats_of w ss)) e ∙ length-append (seat_of s.name (option_map life_view (life_of w s.name))) (seats_of w more)
    ∙ ap (λ (x : Option LifeView). length (seat_of s.name x) + length (seats_of w more)) (sym n) ∙ ap (λ (k : ℕ). k + length (seats_of w more)) (seat-count s.name v) in
    record { fits = omega (arith, split, so.fits); is = omega (arith, split, so.fits, so.is, is) }

same-bool : (a b : Bool) → (a ≡ true → b ≡ true) → (b ≡ true → a ≡ true) → a ≡ b
same-bool true true p q = refl
same-bool true false p q = let wrong : false ≡ true = p refl in absurd cc
same-bool false true p q = let wrong : false ≡ true = q refl in absurd cc
same-bool false false p q = refl

pub none_left : (most : ℕ) (w : World) (rest : List Session) (left : ℕ) → rest ≡ [] → SeatsLeft most w rest left → nat_lt 0 left ≡ nat_lt (length (waits w)) most
none_left most w rest left e so =
    let none : length (seats_of w rest) ≡ 0 = ap (λ (ss : List Session). length (seats_of w ss)) e in
    let is : left ≡ most - length (waits w) = omega (arith, none, so.is) in
    same-bool (nat_lt 0 left) (nat_lt (length (waits w)) most) (λ h. lt-ltb (length (waits w)) most (omega (arith, is, ltb-true 0 left h)))
    (λ h. lt-ltb 0 left (omega (arith, is, ltb-true (length (waits w)) most h)))

-- Which of them waits first.

pub none_between : (w : World) (meant : List ℕ) (low : ℕ) → NoneBetween w meant low low
none_between w meant low = record { each = λ k a b. absurd (omega (arith, a, b)) }

pub one_between : (w : World) (meant : List ℕ) (low high : ℕ) → NoneBetween w meant low high → is_waiting_one w (slice_get meant high) ≡ false → NoneBetween w meant low (high + 1)
one_between w meant low high so is = record { each = λ k a b. by k a b (cases_lt k high) }
  where
    by : (k : ℕ) → low ≤ k → k < high + 1 → (k < high) ⊎ (high ≤ k) → is_waiting_one w (slice_get meant k) ≡ false
    by k a b (inl below) = so.each k a below
    by k a b (inr last) =
        let here : high ≡ k = omega (arith, last, b) in
        subst (λ n. is_waiting_one w (slice_get meant n) ≡ false) here is

pub between_less : (w : World) (meant : List ℕ) (low high end : ℕ) → NoneBetween w meant low high → end ≤ high → NoneBetween w meant low end
between_less w meant low high end so less = record { each = λ k a b. so.each k a (omega (arith, b, less)) }

pub ruleset between_steps = (none_between, one_between, between_less)

-- Which field joins them.

none_is : (o : Option ℕ) → not (is_some o) ≡ true → o ≡ None
none_is None h = refl
none_is (Some n) h = cc

is_not : (b : Bool) → not b ≡ true → b ≡ false
is_not true h = cc
is_not false h = refl

-- the first field that wasn't taken is the next where it is due
pub due_asked : (plan : Plan) (fields : List Field) (meant : List ℕ) (stand : Stand) (id : ℕ) → slice_get meant stand.taken ≡ Some id → is_due plan fields meant stand ≡ true → IsAsked plan fields meant stand stand.taken id
due_asked plan fields meant stand id there due =
    let both = and_parts (not (is_some (stop_field plan fields stand))) (not (is_passed plan fields stand.lasts meant stand.taken)) due in
    record {
      goes_on = none_is (stop_field plan fields stand) both.0;
      next = next_here plan fields stand.lasts meant stand.taken;
      there = there;
      asked = is_not (is_passed plan fields stand.lasts meant stand.taken) both.1;
    }

asked_due : (plan : Plan) (fields : List Field) (meant : List ℕ) (stand : Stand) (id : ℕ) → IsAsked plan fields meant stand stand.taken id → is_due plan fields meant stand ≡ true
asked_due plan fields meant stand id asked = ap (λ (o : Option ℕ). not (is_some o) && not (is_passed plan fields stand.lasts meant stand.taken)) asked.goes_on ∙ ap (λ (b : Bool). not b) asked.asked

taken_joins : (plan : Plan) (w : World) (stand : Stand) (k id : ℕ) → joins plan w stand k id ≡ true → k ≡ stand.taken
taken_joins plan w stand k id h = by (eqb_tells k stand.taken) (and_parts (k == stand.taken) (not stand.warned && has_room_beside plan w id) h).0
  where
    by : ((eqb k stand.taken ≡ true) × (k ≡ stand.taken)) ⊎ ((eqb k stand.taken ≡ false) × (k ≢ stand.taken)) → (k == stand.taken) ≡ true → k ≡ stand.taken
    by (inl e) is = e.1
    by (inr e) is = let wrong : true ≡ false = sym is ∙ e.0 in cc

same_number : (x y : ℕ) (o : Option ℕ) → o ≡ Some x → o ≡ Some y → x ≡ y
same_number x y o a b = let e : Some x ≡ Some y = sym a ∙ b in cc

-- where it is due and joins it is the next, and is asked
pub joined : (plan : Plan) (w : World) (meant : List ℕ) (stand : Stand) (id other : ℕ) → slice_get meant stand.taken ≡ Some id → (joins plan w stand stand.taken id && is_due plan (sheet_in w).fields meant stand) ≡ true
    → slice_get meant stand.taken ≡ Some other → IsAsked plan (sheet_in w).fields meant stand stand.taken other × (joins plan w stand stand.taken other ≡ true)
joined plan w meant stand id other there is again =
    let both = and_parts (joins plan w stand stand.taken id) (is_due plan (sheet_in w).fields meant stand) is in
    (due_asked plan (sheet_in w).fields meant stand other again both.1, subst (λ n. joins plan w stand stand.taken n ≡ true) (same_number id other (slice_get meant stand.taken) there again) both.0)

-- where it doesn't, no field joins
pub none_joins : (plan : Plan) (w : World) (meant : List ℕ) (stand : Stand) (id : ℕ) → slice_get meant stand.taken ≡ Some id → (joins plan w stand stand.taken id && is_due plan (sheet_in w).fields meant stand) ≡ false
    → NoneJoins plan w meant stand
none_joins plan w meant stand id there fails = record { each = λ k other asked. by k other asked (joins plan w stand k other) refl }
  where
    here : (k other : ℕ) → IsAsked plan (sheet_in w).fields meant stand k other → joins plan w stand k other ≡ true → k ≡ stand.taken → true ≡ false
    here k other asked is e =
        let it : IsAsked plan (sheet_in w).fields meant stand stand.taken other = subst (λ n. IsAsked plan (sheet_in w).fields meant stand n other) e asked in
        let so : joins plan w stand stand.taken other ≡ true = subst (λ n. joins plan w stand n other ≡ true) e is in
        let one : joins plan w stand stand.taken id ≡ true = subst (λ n. joins plan w stand stand.taken n ≡ true) (same_number other id (slice_get meant stand.taken) it.there there) so in
        sym (ap (λ (b : Bool). b && is_due plan (sheet_in w).fields meant stand) one ∙ asked_due plan (sheet_in w).fields meant stand other it) ∙ fails

    by : (k other : ℕ) → IsAsked plan (sheet_in w).fields meant stand k other → (b : Bool) → joins plan w stand k other ≡ b → joins plan w stand k other ≡ false
    by k other asked false e = e
    by k other asked true e = let wrong = here k other asked e (taken_joins plan w stand k other e) in absurd cc

-- nor where all were taken
pub none_left_joins : (plan : Plan) (w : World) (meant : List ℕ) (stand : Stand) → length meant ≤ stand.taken → NoneJoins plan w meant stand
none_left_joins plan w meant stand end = record {
  each = λ k id asked.
      let low : stand.taken ≤ k = asked.next.0 in
      let within : k < length meant = slice_get_within meant k id asked.there in
      absurd (omega (arith, low, within, end));
}
