-- A walk over the gates of an area.
use Rattle.std.proofs.Common.{◌≡◌, ◌≢◌, ℕ, ◌+◌, ◌-◌, ◌<◌, ◌≤◌, min, true, get_or, List, [], ◌∷◌, ◌++◌, length, take, drop, refl, sym, ◌∙◌, ap, subst, arith, append_assoc, length-append, length-drop, take-append-drop}
use Rattle.std.specs.Int.{to_be_bytes, from_be_bytes, w32}
use Rattle.std.proofs.lemmas.List.{drop_at, length-take-le, take-append-le}
use Rattle.std.proofs.lemmas.Nat.{from_be_bytes-to_be_bytes_4}
use Rattle.journal.specs.Area.{HasHeader, header, records, record_of, IsPayload, StandsFor, end_of, first_gate, open_gate}
use Rattle.journal.specs.Damage.{IsBroken, Walked}
use Rattle.journal.specs.Front.{HasFront}
use Rattle.journal.specs.Limits.{longest_payload}
use Rattle.journal.specs.inside.Reads.{Begins}
use Rattle.journal.specs.inside.Walk.{IsStep}
use Rattle.journal.specs.inside.Window.{Shows}
use Rattle.journal.specs.declared.walk.GateContent.{GateContent}
use Rattle.journal.specs.declared.walk.GateContent.TheVariants as steps
use Rattle.journal.specs.declared.window.Window.{Window}
use Rattle.journal.proofs.Unique.{whole_record}
use Rattle.journal.proofs.Bytes.{records-push, ArePayloads-push, end-push}

-- whole records stand before this gate
pub record Reached (area : List ℕ) (gate : ℕ) : Type 0 where
  pub payloads : List (List ℕ)
  pub rest : List ℕ
  pub walked : Walked longest_payload area payloads rest
  pub gate_is : gate ≡ end_of payloads

pub rest_here : (area : List ℕ) (gate : ℕ) (r : Reached area gate) → drop gate area ≡ r.rest
rest_here area gate r =
    let s = r.walked.header_is.selector in
    ap (λ (l : List ℕ). drop gate l) (r.walked.header_is.is ∙ sym (append_assoc (header s) (records r.payloads) r.rest))
    ∙ drop_at (header s ++ records r.payloads) r.rest gate (omega (arith, r.gate_is, length-append (header s) (records r.payloads)))

pub at_first : (area : List ℕ) → HasHeader area → Reached area first_gate
at_first area has = record {
  payloads = [];
  rest = has.0;
  walked = record { header_is = has.1; each = tt; some = has.2 };
  gate_is = refl;
}

pub some_left : (area : List ℕ) (gate : ℕ) → Reached area gate → gate < length area
some_left area gate r = omega (arith, ap length (rest_here area gate r), length-drop gate area, r.walked.some)

-- one record more
pub reached_on : (area : List ℕ) (gate n : ℕ) (more : List ℕ) → Reached area gate → drop gate area ≡ open_gate ∷ (to_be_bytes w32 n ++ more) → 1 ≤ n → n ≤ longest_payload → n < length more → Reached area (gate + (5 + n))
reached_on area gate n more r here least most inside =
    let payload = take n more in
    let size : length payload ≡ n = length-take-le n more (omega (arith, inside)) in
    let whole : open_gate ∷ (to_be_bytes w32 n ++ more) ≡ record_of payload ++ drop n more =
    ap (λ (l : List ℕ). open_gate ∷ (to_be_bytes w32 n ++ l)) (sym (take-append-drop n more)) ∙ ap (λ (k : ℕ). open_gate ∷ (to_be_bytes w32 k ++ (payload ++ drop n more))) (sym size) in
    let laid : r.rest ≡ record_of payload ++ drop n more = sym (rest_here area gate r) ∙ here ∙ whole in
    record {
      payloads = r.payloads ++ payload ∷ [];
      rest = drop n more;
      walked = record {
        header_is = record {
          selector = r.walked.header_is.selector;
          is = r.walked.header_is.is ∙ ap (λ (l : List ℕ). header r.walked.header_is.selector ++ (records r.payloads ++ l)) laid
              ∙ ap (λ (l : List ℕ). header r.walked.header_is.selector ++ l) (sym (append_assoc (records r.payloads) (record_of payload) (drop n more)) ∙ ap (λ (l : List ℕ). l ++ drop n more) (sym (records-push r.payloads payload)));
        };
        each = ArePayloads-push longest_payload r.payloads payload r.walked.each (omega (arith, size, least), omega (arith, size, most));
        some = omega (arith, length-drop n more, inside);
      };
      gate_is = omega (arith, r.gate_is, end-push r.payloads payload, size);
    }

-- at a closed gate the area stands for the payloads so far
pub closed_here : (area : List ℕ) (gate byte : ℕ) (more : List ℕ) → Reached area gate → drop gate area ≡ byte ∷ more → byte ≢ open_gate → (payloads : List (List ℕ)) × StandsFor longest_payload area payloads × (gate ≡ end_of payloads)
closed_here area gate byte more r here closed = (
  r.payloads,
  record {
    rest = records r.payloads ++ r.rest;
    header_is = r.walked.header_is;
    lays = record {
      gate = byte;
      more = more;
      is = ap (λ (l : List ℕ). records r.payloads ++ l) (sym (rest_here area gate r) ∙ here);
      closed = closed;
      each = r.walked.each;
    };
  },
  r.gate_is,
)

-- and at a damaged one they are its front
pub damaged_here : (area : List ℕ) (gate : ℕ) (more : List ℕ) → Reached area gate → drop gate area ≡ open_gate ∷ more → IsBroken longest_payload more → (payloads : List (List ℕ)) × HasFront longest_payload area payloads true × (gate ≡ end_of payloads)
damaged_here area gate more r here broken = (
  r.payloads,
  (more, subst (λ (l : List ℕ). Walked longest_payload area r.payloads l) (sym (rest_here area gate r) ∙ here) r.walked, broken),
  r.gate_is,
)

-- what stands at a gate, from what the window shows there
pub step_here : (w : Window) (area : List ℕ) (gate left : ℕ) (front : List ℕ) (step : GateContent) → Shows w area → left ≡ w.limit - gate → gate < w.limit
    → ((rest : List ℕ) → left ≡ length rest → 0 < left → Begins front rest → IsStep longest_payload rest step)
    → ((shown : List ℕ) → Shows w shown → Begins front (drop gate shown)) → IsStep longest_payload (drop gate area) step
step_here w area gate left front step shows is inside does begins =
    does (drop gate area) (omega (arith, length-drop gate area, shows.limit)) (omega arith) (begins area shows)

-- an area with a header shows it in its first eleven bytes
pub header_shown : (front area : List ℕ) → Begins front area → min (length area) 11 ≤ length front → HasHeader area → HasHeader front
header_shown front area begins enough has =
    let s = has.1.selector in
    let size : 10 < length front = omega (arith, enough, ap length has.1.is, length-append (header s) has.0, has.2) in
    let same : take 10 front ≡ header s =
    sym (take-append-le 10 front begins.0 (omega arith)) ∙ ap (λ (l : List ℕ). take 10 l) (sym begins.1 ∙ has.1.is) in (
      drop 10 front,
      record { selector = s; is = sym (take-append-drop 10 front) ∙ ap (λ (l : List ℕ). l ++ drop 10 front) same },
      omega (arith, length-drop 10 front),
    )

-- at a whole record the step names its length
pub reported_here : (payload rest : List ℕ) (step : GateContent) → IsPayload longest_payload payload → 0 < length rest → IsStep longest_payload (record_of payload ++ rest) step → step ≡ steps.Record (length payload)
reported_here payload rest steps.End is some step = absurd (step.3 (sym (ap (λ (l : List ℕ). get_or l 0 0) step.2)))
reported_here payload rest steps.Broken is some step =
    absurd (whole_record longest_payload (omega arith) payload rest is some (subst (λ (l : List ℕ). IsBroken longest_payload l) (sym (ap (λ (l : List ℕ). drop 1 l) step.1)) step.2))
reported_here payload rest (steps.Record n) is some step =
    let four : from_be_bytes w32 (to_be_bytes w32 (length payload)) ≡ from_be_bytes w32 (to_be_bytes w32 n) = ap (λ (l : List ℕ). from_be_bytes w32 (take 4 (drop 1 l))) step.1 in
    let same : length payload ≡ n = sym (from_be_bytes-to_be_bytes_4 (length payload) (omega (arith, is.1))) ∙ four ∙ from_be_bytes-to_be_bytes_4 n (omega (arith, step.3)) in
    ap (λ (k : ℕ). steps.Record k) (sym same)
