-- The payloads that an opening has given, and those that are left.
use Rattle.std.proofs.Common.{◌≡◌, ℕ, Bool, true, false, ◌+◌, ◌-◌, ◌<◌, ◌≤◌, List, [], ◌∷◌, ◌++◌, length, drop, refl, sym, ◌∙◌, ap, subst, arith, append_assoc, length-append}
use Rattle.std.proofs.lemmas.List.{append-nil, drop_at}
use Rattle.disk_model.specs.Disk.{Image, Looks, bytes_on}
use Rattle.journal.specs.Area.{StandsFor, header, open_gate, records, record_of, ArePayloads, IsPayload, end_of}
use Rattle.journal.specs.Damage.{Walked}
use Rattle.journal.specs.Front.{FrontView, HasFront, HasGivenFront, ImageHasFront}
use Rattle.journal.specs.Kept.{Keeps, active_of}
use Rattle.journal.specs.Limits.{longest_payload}
use Rattle.journal.specs.Opening.{HasGiven, OpeningView}
use Rattle.journal.specs.Payloads.{payloads_in, AreGates}
use Rattle.journal.specs.declared.walk.Payload.{Payload}
use Rattle.journal.proofs.Bytes.{end-append, end-push, records-append}
use Rattle.journal.proofs.Loads.{keeps_on}

next_is_payload : (limit : ℕ) (given others : List (List ℕ)) (payload : List ℕ) → ArePayloads limit (given ++ payload ∷ others) → IsPayload limit payload
next_is_payload limit [] others payload each = each.0
next_is_payload limit (p ∷ given) others payload each = next_is_payload limit given others payload each.1

-- what an opening or a front has given of its area, and what is left there
pub record GivenOf (area : List ℕ) (gate end : ℕ) (given left : List (List ℕ)) : Type 0 where
  pub rest : List ℕ
  pub walked : Walked longest_payload area (given ++ left) rest
  pub end_is : end ≡ end_of (given ++ left)
  pub gate_is : gate ≡ end_of given

stood : (area : List ℕ) (payloads : List (List ℕ)) (s : StandsFor longest_payload area payloads) → Walked longest_payload area payloads (s.lays.gate ∷ s.lays.more)
stood area payloads s = record {
  header_is = record {
    selector = s.header_is.selector;
    is = s.header_is.is ∙ ap (λ (l : List ℕ). header s.header_is.selector ++ l) s.lays.is;
  };
  each = s.lays.each;
  some = omega arith;
}

pub of_opening : (o : OpeningView) (given left : List (List ℕ)) → HasGiven o given left → GivenOf (active_of (bytes_on o.disk)) o.gate o.end given left
of_opening o given left has =
    let s = has.keeps.stands.stands in
    record {
      rest = s.lays.gate ∷ s.lays.more;
      walked = stood (active_of (bytes_on o.disk)) (given ++ left) s;
      end_is = has.keeps.end_is;
      gate_is = has.gate_is;
    }

front_walked : (area : List ℕ) (payloads : List (List ℕ)) (damaged : Bool) → HasFront longest_payload area payloads damaged → (rest : List ℕ) × Walked longest_payload area payloads rest
front_walked area payloads false front = (front.lays.gate ∷ front.lays.more, stood area payloads front)
front_walked area payloads true front = (open_gate ∷ front.0, front.1)

pub of_front : (f : FrontView) (given left : List (List ℕ)) → HasGivenFront f given left → GivenOf (active_of (bytes_on f.disk)) f.gate f.end given left
of_front f given left has =
    let walked = front_walked (active_of (bytes_on f.disk)) (given ++ left) f.damaged has.has.front in
    record { rest = walked.0; walked = walked.1; end_is = has.end_is; gate_is = has.gate_is }

-- the end is the next gate only where nothing is left
pub none_left : (area : List ℕ) (gate end : ℕ) (given left : List (List ℕ)) → GivenOf area gate end given left → end - gate < 6 → left ≡ []
none_left area gate end given [] has near = refl
none_left area gate end given (p ∷ others) has near =
    absurd (omega (
      arith,
      near,
      has.gate_is,
      has.end_is,
      end-append given (p ∷ others),
      length-append (record_of p) (records others),
      (next_is_payload longest_payload given others p has.walked.each).0,
    ))

pub all_given : (o : OpeningView) (given left : List (List ℕ)) → HasGiven o given left → left ≡ [] → Keeps o.disk.history o.end given
all_given o given left has none =
    subst (λ (l : List (List ℕ)). Keeps o.disk.history o.end l) (append-nil given)
    (subst (λ (l : List (List ℕ)). Keeps o.disk.history o.end (given ++ l)) none has.keeps)

-- the first payload that is left stands at the next gate
pub record NextLeft (area : List ℕ) (gate end : ℕ) (left : List (List ℕ)) : Type 0 where
  pub payload : List ℕ
  pub others : List (List ℕ)
  pub rest : List ℕ
  pub is : left ≡ payload ∷ others
  pub is_payload : IsPayload longest_payload payload
  pub some : 0 < length rest
  pub fits : gate + 5 + length payload ≤ end
  pub here : drop gate area ≡ record_of payload ++ rest

pub next_left : (area : List ℕ) (gate end : ℕ) (given left : List (List ℕ)) → GivenOf area gate end given left → 6 ≤ end - gate → NextLeft area gate end left
next_left area gate end given [] has far = absurd (omega (arith, far, has.gate_is, has.end_is, ap end_of (append-nil given)))
next_left area gate end given (p ∷ others) has far =
    let rest = records others ++ has.rest in
    let head = header has.walked.header_is.selector in
    let following : records (given ++ p ∷ others) ++ has.rest ≡ records given ++ (record_of p ++ rest) =
    ap (λ (l : List ℕ). l ++ has.rest) (records-append given (p ∷ others))
    ∙ append_assoc (records given) (record_of p ++ records others) has.rest
    ∙ ap (λ (l : List ℕ). records given ++ l) (append_assoc (record_of p) (records others) has.rest) in
    let whole : area ≡ (head ++ records given) ++ (record_of p ++ rest) =
    has.walked.header_is.is ∙ ap (λ (l : List ℕ). head ++ l) following ∙ sym (append_assoc head (records given) (record_of p ++ rest)) in
    record {
      payload = p;
      others = others;
      rest = rest;
      is = refl;
      is_payload = next_is_payload longest_payload given others p has.walked.each;
      some = omega (arith, length-append (records others) has.rest, has.walked.some);
      fits = omega (arith, has.gate_is, has.end_is, end-append given (p ∷ others), length-append (record_of p) (records others));
      here = ap (λ (l : List ℕ). drop gate l) whole
          ∙ drop_at (head ++ records given) (record_of p ++ rest) gate (omega (arith, has.gate_is, length-append head (records given)));
    }

-- the payloads are parted again where one more is given
parted : (given left others : List (List ℕ)) (bytes : List ℕ) → left ≡ bytes ∷ others → given ++ left ≡ (given ++ bytes ∷ []) ++ others
parted given left others bytes is = ap (λ (l : List (List ℕ)). given ++ l) is ∙ sym (append_assoc given (bytes ∷ []) others)

-- once it is given, the others are left
pub given_on : (old new : OpeningView) (given left : List (List ℕ)) (bytes : List ℕ) → HasGiven old given left → (next : NextLeft (active_of (bytes_on old.disk)) old.gate old.end left) → bytes ≡ next.payload
    → Looks old.disk.history new.disk.history → new.end ≡ old.end → new.gate ≡ old.gate + 5 + length bytes
    → (others : List (List ℕ)) × (left ≡ bytes ∷ others) × HasGiven new (given ++ bytes ∷ []) others
given_on old new given left bytes has next same looks end gate =
    let is : left ≡ bytes ∷ next.others = next.is ∙ ap (λ (p : List ℕ). p ∷ next.others) (sym same) in
    let kept = keeps_on old.disk.history new.disk.history old.end (given ++ left) looks has.keeps in (
      next.others,
      is,
      record {
        keeps = subst (λ (n : ℕ). Keeps new.disk.history n ((given ++ bytes ∷ []) ++ next.others)) (sym end)
            (subst (λ (l : List (List ℕ)). Keeps new.disk.history old.end l) (parted given left next.others bytes is) kept);
        gate_is = omega (arith, gate, has.gate_is, end-push given bytes);
      },
    )

pub given_in_front : (old new : FrontView) (given left : List (List ℕ)) (bytes : List ℕ) → HasGivenFront old given left → (next : NextLeft (active_of (bytes_on old.disk)) old.gate old.end left) → bytes ≡ next.payload
    → Looks old.disk.history new.disk.history → new.end ≡ old.end → new.damaged ≡ old.damaged → new.gate ≡ old.gate + 5 + length bytes
    → (others : List (List ℕ)) × (left ≡ bytes ∷ others) × HasGivenFront new (given ++ bytes ∷ []) others
given_in_front old new given left bytes has next same looks end damaged gate =
    let is : left ≡ bytes ∷ next.others = next.is ∙ ap (λ (p : List ℕ). p ∷ next.others) (sym same) in
    let all = parted given left next.others bytes is in (
      next.others,
      is,
      record {
        has = subst (λ (i : Image). ImageHasFront i ((given ++ bytes ∷ []) ++ next.others) new.damaged) (sym looks.content)
            (subst (λ (b : Bool). ImageHasFront (bytes_on old.disk) ((given ++ bytes ∷ []) ++ next.others) b) (sym damaged)
            (subst (λ (l : List (List ℕ)). ImageHasFront (bytes_on old.disk) l old.damaged) all has.has));
        end_is = end ∙ has.end_is ∙ ap end_of all;
        gate_is = omega (arith, gate, has.gate_is, end-push given bytes);
      },
    )

-- the payloads in a list of them that grows
pub payloads_in-push : (ps : List Payload) (p : Payload) → payloads_in (ps ++ p ∷ []) ≡ payloads_in ps ++ p.bytes ∷ []
payloads_in-push [] p = refl
payloads_in-push (q ∷ ps) p = ap (λ (l : List (List ℕ)). q.bytes ∷ l) (payloads_in-push ps p)

pub AreGates-push : (ps : List Payload) (p : Payload) (from : ℕ) → AreGates from ps → p.gate ≡ from + length (records (payloads_in ps)) → AreGates from (ps ++ p ∷ [])
AreGates-push [] p from gates is = (omega (arith, is), tt)
AreGates-push (q ∷ ps) p from gates is = (gates.0, AreGates-push ps p (from + length (record_of q.bytes)) gates.1 (omega (arith, is, length-append (record_of q.bytes) (records (payloads_in ps)))))
