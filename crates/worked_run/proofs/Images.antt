-- Which worksheet each image of the run opens to.
use Rattle.std.proofs.Common.{◌≡◌, ◌≢◌, ◌⊎◌, inl, inr, ℕ, ◌<◌, ◌≤◌, ◌+◌, suc, Bool, true, false, nat_eq, List, [], ◌∷◌, ◌++◌, length, take, drop, get_or, refl, sym, ap, ◌∙◌, subst, arith, length-append}
use Rattle.std.proofs.Math.Seq.{drop-cons}
use Rattle.std.proofs.lemmas.Bool.{eq-eqb, eqb-true}
use Rattle.std.proofs.lemmas.List.{take-append-drop}
use Rattle.std.specs.Str.{is_utf8, chars}
use lib.Utf8.{encode}
use Rattle.disk_model.specs.Disk.{Image, IsImage, Torn, Leaves}
use Rattle.worksheet.specs.Ops.{sheet_of}
use Rattle.journal.specs.Area.{ArePayloads, header, names_first, open_gate, records}
use Rattle.journal.specs.Kept.{ImageStandsFor}
use Rattle.journal.specs.Limits.{longest_payload}
use Rattle.recovery.specs.Sheets.{codes_of, IsSheetImage, Makes}
use Rattle.worked_run.specs.Run.{opened_ops, without_answer, with_answer, only_first, bytes_found, bytes_before, bytes_written, bytes_after, before_all, record_written, record_synced, gate_written, gate_synced, IsWithout, IsWith, HasGateShut, HasGateOpen}

-- the header, the records of these payloads and a closed gate stand for the payloads, whatever follows
stands : (payloads : List (List ℕ)) (gate : ℕ) (more second : List ℕ) → ArePayloads longest_payload payloads → gate ≢ open_gate
    → ImageStandsFor (record { first = header names_first ++ (records payloads ++ gate ∷ more); second = second }) payloads
stands payloads gate more second each shut =
    let long : 0 < length (records payloads ++ gate ∷ more) = omega (arith, length-append (records payloads) (gate ∷ more)) in
    record {
      headed = (records payloads ++ gate ∷ more, record { selector = names_first; is = refl }, long);
      stands = record {
        rest = records payloads ++ gate ∷ more;
        header_is = record { selector = names_first; is = refl };
        lays = record { gate = gate; more = more; is = refl; closed = shut; each = each };
      };
    }

pub makes_found : Makes opened_ops (sheet_of opened_ops)
unfolding is_utf8 chars encode
makes_found = record {
  typed = (tt, tt);
  lengths = ((omega arith, omega arith), tt);
  allowed = (refl, tt);
  is = refl;
}

pub makes_without : Makes without_answer (sheet_of without_answer)
unfolding is_utf8 chars encode
makes_without = record {
  typed = (tt, (omega arith, (omega arith, tt)));
  lengths = ((omega arith, omega arith), ((omega arith, omega arith), ((omega arith, omega arith), tt)));
  allowed = (refl, (refl, (refl, tt)));
  is = refl;
}

pub makes_with : Makes with_answer (sheet_of with_answer)
unfolding is_utf8 chars encode
makes_with = record {
  typed = (tt, (omega arith, (omega arith, ((omega arith, refl), tt))));
  lengths = ((omega arith, omega arith), ((omega arith, omega arith), ((omega arith, omega arith), ((omega arith, omega arith), tt))));
  allowed = (refl, (refl, (refl, (refl, tt))));
  is = refl;
}

-- an area that begins with the first 49 bytes and a closed gate
opens_without : (gate : ℕ) (more second : List ℕ) → gate ≢ open_gate → IsWithout (record { first = take 49 bytes_before ++ gate ∷ more; second = second })
opens_without gate more second shut = record { ops = without_answer; stands = stands (codes_of without_answer) gate more second makes_without.lengths shut; makes = makes_without }

-- and with all records
opens_with : (more second : List ℕ) → IsWith (record { first = bytes_after ++ more; second = second })
opens_with more second = record { ops = with_answer; stands = stands (codes_of with_answer) 0 more second makes_with.lengths (λ e. absurd (omega (arith, e))); makes = makes_with }

pub stands_found : ImageStandsFor (only_first bytes_found) (codes_of opened_ops)
stands_found = stands (codes_of opened_ops) 0 [] [] makes_found.lengths (λ e. absurd (omega (arith, e)))

pub opens_found : IsSheetImage (sheet_of opened_ops) (only_first bytes_found)
opens_found = record { ops = opened_ops; stands = stands_found; makes = makes_found }

-- Where each call leaves area First.

of_first : (P : Image → Type 0) (i : Image) (bytes : List ℕ) → i.first ≡ bytes → P (record { first = bytes; second = i.second }) → P i
of_first P i bytes is holds = subst (λ (l : List ℕ). P (record { first = l; second = i.second })) (sym is) holds

zero_shut : 0 ≢ open_gate
zero_shut e = absurd (omega (arith, e))

pub before_calls : Leaves IsWithout before_all
before_calls i h = of_first IsWithout i bytes_before h.0 (opens_without 0 [] i.second zero_shut)

-- what a torn write leaves of the bytes before it
kept_before : (at n : ℕ) (old new : List ℕ) → Torn at n old new → new ≡ take at old ++ drop at new
kept_before at n old new torn = sym (take-append-drop at new) ∙ ap (λ l. l ++ drop at new) torn.before

pub after_write : Leaves IsWithout record_written
after_write i h =
    let torn = subst (λ (d : List ℕ). Torn 50 26 d i.first) h.0.1 h.0.2 in
    of_first IsWithout i (bytes_before ++ drop 50 i.first) (kept_before 50 26 bytes_before i.first torn) (opens_without 0 (drop 50 i.first) i.second zero_shut)

pub after_sync : Leaves IsWithout record_synced
after_sync i h = of_first IsWithout i bytes_written h.0 (opens_without 0 (drop 50 bytes_written) i.second zero_shut)

-- a write of one byte, which is torn: some byte is there, and those around it are as they were
one_byte : (at : ℕ) (old new : List ℕ) → at < length old → Torn at 1 old new → new ≡ take at old ++ get_or new at 0 ∷ drop (at + 1) old
one_byte at old new short torn =
    let longer = torn.no_shorter in
    let one : drop at new ≡ get_or new at 0 ∷ drop (suc at) new = drop-cons new at 0 (omega (arith, longer)) in
    let next : suc at ≡ at + 1 = omega arith in
    kept_before at 1 old new torn ∙ ap (λ l. take at old ++ l) (one ∙ ap (λ l. get_or new at 0 ∷ l) (ap (λ n. drop n new) next ∙ torn.after))

pub after_gate : Leaves (λ i. (HasGateShut i × IsWithout i) ⊎ (HasGateOpen i × IsWith i)) gate_written
after_gate i h =
    let torn = subst (λ (d : List ℕ). Torn 49 1 d i.first) h.0.1 h.0.2 in
    by_gate (nat_eq (get_or i.first 49 0) open_gate) refl (one_byte 49 bytes_written i.first (omega arith) torn)
  where
    by_gate : (b : Bool) → nat_eq (get_or i.first 49 0) open_gate ≡ b → i.first ≡ take 49 bytes_written ++ get_or i.first 49 0 ∷ drop 50 bytes_written → (HasGateShut i × IsWithout i) ⊎ (HasGateOpen i × IsWith i)
    by_gate true e is =
        let opened : get_or i.first 49 0 ≡ open_gate = eqb-true (get_or i.first 49 0) open_gate e in
        inr (opened, of_first IsWith i bytes_after (is ∙ ap (λ g. take 49 bytes_written ++ g ∷ drop 50 bytes_written) opened) (opens_with [] i.second))
    by_gate false e is =
        let shut : get_or i.first 49 0 ≢ open_gate = λ same. let t = eq-eqb (get_or i.first 49 0) open_gate same in cc in
        inl (
          shut,
          of_first IsWithout i (take 49 bytes_written ++ get_or i.first 49 0 ∷ drop 50 bytes_written) is
              (opens_without (get_or i.first 49 0) (drop 50 bytes_written) i.second shut),
        )

pub after_all : Leaves IsWith gate_synced
after_all i h = of_first IsWith i bytes_after h.0 (opens_with [] i.second)

pub closed_left : IsImage gate_written (only_first bytes_written)
closed_left = let as_long : 76 ≤ 76 = omega arith in ((bytes_written, refl, record { before = refl; after = refl; no_shorter = as_long; no_longer = as_long }), refl)

pub open_left : IsImage gate_written (only_first bytes_after)
open_left = let as_long : 76 ≤ 76 = omega arith in ((bytes_written, refl, record { before = refl; after = refl; no_shorter = as_long; no_longer = as_long }), refl)
