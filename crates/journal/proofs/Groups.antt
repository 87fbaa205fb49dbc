-- The bytes of payloads that become durable together.
use Rattle.std.proofs.Common.{◌≡◌, ℕ, zero, suc, ◌+◌, ◌≤◌, List, [], ◌∷◌, ◌++◌, length, take, drop, refl, sym, ◌∙◌, ap, ap₂, subst, arith, append_assoc, length-append}
use Rattle.std.specs.Int.{to_be_bytes, from_be_bytes, w32}
use Rattle.std.specs.Prelude.{set}
use Rattle.std.proofs.lemmas.List.{take_at, drop_at}
use Rattle.std.proofs.lemmas.Nat.{from_be_bytes-to_be_bytes_4}
use Rattle.journal.specs.Area.{ArePayloads, IsGroup, IsPayload, body_of, closed_gate, open_gate, record_of, records}
use Rattle.journal.specs.Limits.{longest_payload}
use Rattle.journal.specs.inside.Group.{group_of, payloads_by}
use Rattle.journal.proofs.Bytes.{ArePayloads-push, records-push}

-- what is read of records is their payloads
read_back : (ps : List (List ℕ)) (n : ℕ) → ArePayloads longest_payload ps → length (records ps) ≤ n → payloads_by n (records ps ++ closed_gate ∷ []) ≡ ps
read_back [] zero each fuel = refl
read_back [] (suc n) each fuel = refl
read_back (p ∷ ps) zero each fuel = absurd (omega (arith, fuel, length-append (record_of p) (records ps)))
read_back (p ∷ ps) (suc n) each fuel =
    let reported : from_be_bytes w32 (to_be_bytes w32 (length p)) ≡ length p = from_be_bytes-to_be_bytes_4 (length p) (omega (arith, each.0.1)) in
    let rest = records ps ++ closed_gate ∷ [] in
    let following : (p ++ records ps) ++ closed_gate ∷ [] ≡ p ++ rest = append_assoc p (records ps) (closed_gate ∷ []) in
    let first : take (length p) (p ++ rest) ≡ p = take_at p rest (length p) refl in
    let others : drop (length p) (p ++ rest) ≡ rest = drop_at p rest (length p) refl in
    ap₂ (λ (k : ℕ) (l : List ℕ). take k l ∷ payloads_by n (drop k l)) reported following
    ∙ ap₂ (λ (l : List ℕ) (m : List ℕ). l ∷ payloads_by n m) first others
    ∙ ap (λ (qs : List (List ℕ)). p ∷ qs) (read_back ps n each.1 (omega (arith, fuel, length-append (record_of p) (records ps))))

-- so bytes are those of one group at most
pub group_is : (bytes : List ℕ) (ps : List (List ℕ)) → IsGroup longest_payload bytes ps → group_of bytes ≡ ps
group_is bytes ps is =
    ap (λ (l : List ℕ). payloads_by (length l) l) is.is ∙ read_back ps (length (records ps ++ closed_gate ∷ [])) is.each (omega (arith, length-append (records ps) (closed_gate ∷ [])))

pub seen : (bytes : List ℕ) (ps : List (List ℕ)) → IsGroup longest_payload bytes ps → IsGroup longest_payload bytes (group_of bytes)
seen bytes ps is = subst (λ (qs : List (List ℕ)). IsGroup longest_payload bytes qs) (sym (group_is bytes ps is)) is

set_at : (xs ys : List ℕ) (y z n : ℕ) → n ≡ length xs → set (xs ++ y ∷ ys) n z ≡ xs ++ z ∷ ys
set_at [] ys y z n is = rw is refl
set_at (x ∷ xs) ys y z zero is = absurd (omega (arith, is))
set_at (x ∷ xs) ys y z (suc n) is = ap (λ (l : List ℕ). x ∷ l) (set_at xs ys y z n (omega (arith, is)))

-- a payload more
pub group_more : (bytes longer : List ℕ) (ps : List (List ℕ)) (payload frame : List ℕ) (last : ℕ) → IsGroup longest_payload bytes ps → IsPayload longest_payload payload → frame ≡ body_of payload ++ closed_gate ∷ []
    → last + 1 ≡ length bytes → longer ≡ set (bytes ++ frame) last open_gate → IsGroup longest_payload longer (ps ++ payload ∷ [])
group_more bytes longer ps payload frame last group is_payload are at is = record {
  is =
      is ∙ ap₂ (λ (b f : List ℕ). set (b ++ f) last open_gate) group.is are
      ∙ ap (λ (l : List ℕ). set l last open_gate) (append_assoc (records ps) (closed_gate ∷ []) (body_of payload ++ closed_gate ∷ []))
      ∙ set_at (records ps) (body_of payload ++ closed_gate ∷ []) closed_gate open_gate last (omega (arith, at, ap length group.is, length-append (records ps) (closed_gate ∷ [])))
      ∙ sym (append_assoc (records ps) (record_of payload) (closed_gate ∷ []))
      ∙ ap (λ (l : List ℕ). l ++ closed_gate ∷ []) (sym (records-push ps payload));
  each = ArePayloads-push longest_payload ps payload group.each is_payload;
}

pub length_of : (bytes : List ℕ) (ps : List (List ℕ)) → IsGroup longest_payload bytes ps → length bytes ≡ length (records ps) + 1
length_of bytes ps group = ap length group.is ∙ length-append (records ps) (closed_gate ∷ [])
