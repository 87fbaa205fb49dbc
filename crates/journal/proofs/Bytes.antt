-- What an area lays out while a record is added.
use Rattle.std.proofs.Common.{◌≡◌, ◌≢◌, ◌⊎◌, inl, inr, ap₂, ℕ, ◌+◌, ◌<◌, List, [], ◌∷◌, ◌++◌, length, get_or, take, drop, refl, sym, ◌∙◌, ap, subst, arith, append_assoc, length-append, take-append-drop}
use Rattle.std.proofs.lemmas.List.{take_at, drop_at, drop_more, take_more, length-take-le, append-nil}
use Rattle.std.proofs.lemmas.Bool.{cases_eq}
use Rattle.disk_model.specs.Disk.{Torn, overwritten}
use Rattle.journal.specs.Area.{header, records, record_of, body_of, IsPayload, ArePayloads, end_of, first_gate, closed_gate, open_gate}

pub records-push : (payloads : List (List ℕ)) (payload : List ℕ) → records (payloads ++ payload ∷ []) ≡ records payloads ++ record_of payload
records-push [] payload = append-nil (record_of payload)
records-push (p ∷ payloads) payload = ap (λ (l : List ℕ). record_of p ++ l) (records-push payloads payload) ∙ sym (append_assoc (record_of p) (records payloads) (record_of payload))

pub ArePayloads-push : (limit : ℕ) (payloads : List (List ℕ)) (payload : List ℕ) → ArePayloads limit payloads → IsPayload limit payload → ArePayloads limit (payloads ++ payload ∷ [])
ArePayloads-push limit [] payload each one = (one, tt)
ArePayloads-push limit (p ∷ payloads) payload each one = (each.0, ArePayloads-push limit payloads payload each.1 one)

pub records-append : (a b : List (List ℕ)) → records (a ++ b) ≡ records a ++ records b
records-append [] b = refl
records-append (p ∷ a) b = ap (λ (l : List ℕ). record_of p ++ l) (records-append a b) ∙ sym (append_assoc (record_of p) (records a) (records b))

pub ArePayloads-append : (limit : ℕ) (a b : List (List ℕ)) → ArePayloads limit a → ArePayloads limit b → ArePayloads limit (a ++ b)
ArePayloads-append limit [] b one two = two
ArePayloads-append limit (p ∷ a) b one two = (one.0, ArePayloads-append limit a b one.1 two)

-- what is written after a gate for one payload, with that gate open in front of it
pub one_group : (payload bytes : List ℕ) → bytes ≡ body_of payload ++ closed_gate ∷ [] → open_gate ∷ bytes ≡ records (payload ∷ []) ++ closed_gate ∷ []
one_group payload bytes are = ap (λ (l : List ℕ). open_gate ∷ l) are ∙ ap (λ (l : List ℕ). l ++ closed_gate ∷ []) (sym (append-nil (record_of payload)))

-- a header with this selector, the records of these payloads, a closed gate, and then anything
pub record Laid (limit selector : ℕ) (bytes : List ℕ) (payloads : List (List ℕ)) : Type 0 where
  pub gate : ℕ
  pub rest : List ℕ
  pub is : bytes ≡ header selector ++ records payloads ++ gate ∷ rest
  pub closed : gate ≢ open_gate
  pub each : ArePayloads limit payloads

module _ (limit selector : ℕ) (content : List ℕ) (payloads : List (List ℕ)) (lays : Laid limit selector content payloads) (end : ℕ) (ends : end ≡ end_of payloads) where
  -- the bytes up to the gate
  pub front : List ℕ
  front = header selector ++ records payloads

  pub split : content ≡ front ++ lays.gate ∷ lays.rest
  unfolding front
  split = lays.is ∙ sym (append_assoc (header selector) (records payloads) (lays.gate ∷ lays.rest))

  pub length-front : length front ≡ end
  unfolding front
  length-front = omega (arith, ends, length-append (header selector) (records payloads))

  pub inside : end < length content
  inside = omega (arith, ap length split, length-front, length-append front (lays.gate ∷ lays.rest))

  -- a closed gate after the front ends these payloads
  pub shut : (gate : ℕ) (rest : List ℕ) → gate ≢ open_gate → Laid limit selector (front ++ gate ∷ rest) payloads
  unfolding front
  shut gate rest closed = record {
    gate = gate;
    rest = rest;
    is = append_assoc (header selector) (records payloads) (gate ∷ rest);
    closed = closed;
    each = lays.each;
  }

  -- the first write leaves the closed gate
  pub torn_after : (n : ℕ) (c : List ℕ) → Torn (end + 1) n content c → Laid limit selector c payloads
  torn_after n c torn =
      let base : take (end + 1) content ≡ front ++ lays.gate ∷ [] =
      ap (λ (l : List ℕ). take (end + 1) l) (split ∙ sym (append_assoc front (lays.gate ∷ []) lays.rest))
      ∙ take_at (front ++ lays.gate ∷ []) lays.rest (end + 1) (omega (arith, length-front, length-append front (lays.gate ∷ []))) in
      let whole : c ≡ front ++ lays.gate ∷ drop (end + 1) c =
      sym (take-append-drop (end + 1) c) ∙ ap (λ (l : List ℕ). l ++ drop (end + 1) c) (torn.before ∙ base) ∙ append_assoc front (lays.gate ∷ []) (drop (end + 1) c) in
      subst (λ l. Laid limit selector l payloads) (sym whole) (shut lays.gate (drop (end + 1) c) lays.closed)

  module _ (more : List (List ℕ)) (each : ArePayloads limit more) (bytes : List ℕ) (are : open_gate ∷ bytes ≡ records more ++ closed_gate ∷ []) where
    -- with the records after the closed gate
    pub staged : List ℕ → List ℕ
    staged rest = front ++ lays.gate ∷ (bytes ++ rest)

    pub after_stage : (c : List ℕ) → c ≡ overwritten content (end + 1) bytes → c ≡ staged (drop (end + 1 + length bytes) content)
    unfolding staged
    after_stage c is =
        let base : take (end + 1) content ≡ front ++ lays.gate ∷ [] =
        ap (λ (l : List ℕ). take (end + 1) l) (split ∙ sym (append_assoc front (lays.gate ∷ []) lays.rest))
        ∙ take_at (front ++ lays.gate ∷ []) lays.rest (end + 1) (omega (arith, length-front, length-append front (lays.gate ∷ []))) in
        let tail = drop (end + 1 + length bytes) content in
        is ∙ ap (λ (l : List ℕ). (l ++ bytes) ++ tail) base ∙ ap (λ (l : List ℕ). l ++ tail) (append_assoc front (lays.gate ∷ []) bytes)
        ∙ append_assoc front (lays.gate ∷ bytes) tail

    opened : (rest : List ℕ) → Laid limit selector (front ++ open_gate ∷ (bytes ++ rest)) (payloads ++ more)
    unfolding front
    opened rest = record {
      gate = closed_gate;
      rest = rest;
      is = append_assoc (header selector) (records payloads) (open_gate ∷ (bytes ++ rest)) ∙ ap (λ (l : List ℕ). header selector ++ l)
          (ap (λ (l : List ℕ). records payloads ++ (l ++ rest)) are ∙ ap (λ (l : List ℕ). records payloads ++ l) (append_assoc (records more) (closed_gate ∷ []) rest)
          ∙ sym (append_assoc (records payloads) (records more) (closed_gate ∷ rest)) ∙ ap (λ (l : List ℕ). l ++ closed_gate ∷ rest) (sym (records-append payloads more)));
      closed = λ h. omega arith;
      each = ArePayloads-append limit payloads more lays.each each;
    }

    -- any byte at the gate
    pub any_gate : (gate : ℕ) (rest : List ℕ) → Laid limit selector (front ++ gate ∷ (bytes ++ rest)) payloads ⊎ Laid limit selector (front ++ gate ∷ (bytes ++ rest)) (payloads ++ more)
    any_gate gate rest = elim (cases_eq gate open_gate) [
      | inl is_open ↦ inr (subst (λ (g : ℕ). Laid limit selector (front ++ g ∷ (bytes ++ rest)) (payloads ++ more)) (sym is_open) (opened rest))
      | inr closed ↦ inl (shut gate (bytes ++ rest) closed)
    ]

    module _ (rest : List ℕ) where
      body_back : drop (end + 1) (staged rest) ≡ bytes ++ rest
      unfolding staged
      body_back =
          ap (λ (l : List ℕ). drop (end + 1) l) (sym (append_assoc front (lays.gate ∷ []) (bytes ++ rest)))
          ∙ drop_at (front ++ lays.gate ∷ []) (bytes ++ rest) (end + 1) (omega (arith, length-front, length-append front (lays.gate ∷ [])))

      front_back : take end (staged rest) ≡ front
      unfolding staged
      front_back = take_at front (lays.gate ∷ (bytes ++ rest)) end length-front

      pub length-staged : end < length (staged rest)
      unfolding staged
      length-staged = omega (arith, length-front, length-append front (lays.gate ∷ (bytes ++ rest)))

      -- the second write leaves the records whole, after any gate
      pub torn_gate : (c : List ℕ) → Torn end 1 (staged rest) c → Laid limit selector c payloads ⊎ Laid limit selector c (payloads ++ more)
      torn_gate c torn =
          let gate = get_or c end 0 in
          let back : drop end c ≡ gate ∷ (bytes ++ rest) = drop_more c end 0 (omega (arith, torn.no_shorter, length-staged)) ∙ ap (λ (l : List ℕ). gate ∷ l) (torn.after ∙ body_back) in
          let whole : c ≡ front ++ gate ∷ (bytes ++ rest) =
          sym (take-append-drop end c) ∙ ap (λ (l : List ℕ). l ++ drop end c) (torn.before ∙ front_back) ∙ ap (λ (l : List ℕ). front ++ l) back in
          subst (λ (l : List ℕ). Laid limit selector l payloads ⊎ Laid limit selector l (payloads ++ more)) (sym whole) (any_gate gate rest)

      -- and the open gate has them
      pub after_gate : (c : List ℕ) → c ≡ overwritten (staged rest) end (open_gate ∷ []) → Laid limit selector c (payloads ++ more)
      after_gate c is =
          let whole : c ≡ front ++ open_gate ∷ (bytes ++ rest) =
          is ∙ ap (λ (l : List ℕ). l ++ (open_gate ∷ []) ++ drop (end + 1) (staged rest)) front_back ∙ append_assoc front (open_gate ∷ []) (drop (end + 1) (staged rest)) ∙ ap (λ (l : List ℕ). front ++ open_gate ∷ l) body_back in
          subst (λ (l : List ℕ). Laid limit selector l (payloads ++ more)) (sym whole) (opened rest)

pub end-push : (payloads : List (List ℕ)) (payload : List ℕ) → end_of (payloads ++ payload ∷ []) ≡ end_of payloads + length (record_of payload)
end-push payloads payload = ap (λ (l : List ℕ). first_gate + length l) (records-push payloads payload) ∙ omega (arith, length-append (records payloads) (record_of payload))

pub end-append : (a b : List (List ℕ)) → end_of (a ++ b) ≡ end_of a + length (records b)
end-append a b = omega (arith, ap length (records-append a b), length-append (records a) (records b))

-- two writes, of what follows an offset and then of the byte there, are one
pub overwritten-overwritten : (old : List ℕ) (end c : ℕ) (bytes : List ℕ) → end < length old → overwritten (overwritten old (end + 1) bytes) end (c ∷ []) ≡ overwritten old end (c ∷ bytes)
overwritten-overwritten old end c bytes h =
    let last = get_or old end 0 in
    let rest = drop (end + 1 + length bytes) old in
    let size : length (take end old) ≡ end = length-take-le end old (omega (arith, h)) in
    let size1 : length (take (end + 1) old) ≡ end + 1 = length-take-le (end + 1) old (omega (arith, h)) in
    let split : overwritten old (end + 1) bytes ≡ take (end + 1) old ++ (bytes ++ rest) = append_assoc (take (end + 1) old) bytes rest in
    let split1 : overwritten old (end + 1) bytes ≡ take end old ++ (last ∷ (bytes ++ rest)) =
    split ∙ ap (λ l. l ++ (bytes ++ rest)) (take_more old end 0 h) ∙ append_assoc (take end old) (last ∷ []) (bytes ++ rest) in
    let front : take end (overwritten old (end + 1) bytes) ≡ take end old = ap (take end) split1 ∙ take_at (take end old) (last ∷ (bytes ++ rest)) end size in
    let back : drop (end + 1) (overwritten old (end + 1) bytes) ≡ bytes ++ rest = ap (drop (end + 1)) split ∙ drop_at (take (end + 1) old) (bytes ++ rest) (end + 1) size1 in
    ap₂ (λ (a b : List ℕ). (a ++ c ∷ []) ++ b) front back
    ∙ append_assoc (take end old) (c ∷ []) (bytes ++ rest)
    ∙ sym (append_assoc (take end old) (c ∷ bytes) rest)
    ∙ ap (λ (n : ℕ). (take end old ++ c ∷ bytes) ++ drop n old) (omega arith)
