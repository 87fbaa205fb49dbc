-- Batches of records, and the area in which one is laid.
use Rattle.std.proofs.Common.{◌≡◌, ℕ, ◌+◌, ◌<◌, ◌≤◌, List, [], ◌∷◌, ◌++◌, length, get_or, take, drop, refl, sym, ap, ◌∙◌, arith, append_assoc, length-append, Result, Ok, Err, OnOk}
use Rattle.std.proofs.lemmas.List.{take_at, take_more}
use Rattle.disk_model.specs.Disk.{ChangesArea, DiskView, Image, InModel, Writes, area_of, bytes_on, overwritten}
use Rattle.disk_model.specs.declared.disk.Area.{Area}
use Rattle.journal.specs.Area.{ArePayloads, IsPayload, StandsFor, closed_gate, end_of, header, record_of, records}
use Rattle.journal.specs.Limits.{longest_payload}
use Rattle.journal.specs.Sources.{HoldsEach}
use Rattle.journal.specs.inside.Batches.{IsBatch}
use Rattle.journal.proofs.Actives.{changed}
use Rattle.journal.proofs.Bytes.{ArePayloads-append, ArePayloads-push, end-append, records-append, records-push}

pub batch_more : (payloads : List (List ℕ)) (from next : ℕ) (bytes longer : List ℕ) → IsBatch payloads from next bytes → next < length payloads
    → IsPayload longest_payload (get_or payloads next []) → longer ≡ bytes ++ record_of (get_or payloads next []) → IsBatch payloads from (next + 1) longer
batch_more payloads from next bytes longer batch some payload is =
    let p = get_or payloads next [] in
    record {
      those = batch.those ++ p ∷ [];
      split = take_more payloads next [] some ∙ ap (λ (l : List (List ℕ)). l ++ p ∷ []) batch.split ∙ append_assoc (take from payloads) batch.those (p ∷ []);
      are = is ∙ ap (λ (l : List ℕ). l ++ record_of p) batch.are ∙ sym (records-push batch.those p);
      each = ArePayloads-push longest_payload batch.those p batch.each payload;
    }

pub holds_more : (c d : ℕ) (payloads : List (List ℕ)) → HoldsEach c payloads → c ≤ d → HoldsEach d payloads
holds_more c d payloads holds more = λ i some. omega (arith, holds i some, more)

-- the end after a batch, which is at most that of all
pub end_after : (payloads : List (List ℕ)) (from next : ℕ) (bytes : List ℕ) → IsBatch payloads from next bytes → end_of (take next payloads) ≡ end_of (take from payloads) + length bytes
end_after payloads from next bytes batch =
    omega (arith, ap end_of batch.split, end-append (take from payloads) batch.those, ap length batch.are)

-- a batch in place of the closed gate
pub batch_laid : (area : Area) (end : ℕ) (bytes : List ℕ) (payloads more : List (List ℕ)) → ArePayloads longest_payload more → bytes ≡ records more ++ closed_gate ∷ [] → end ≡ end_of payloads → (a b : Image)
    → StandsFor longest_payload (area_of area a) payloads → ChangesArea area (λ before after. after ≡ overwritten before end bytes) a b → StandsFor longest_payload (area_of area b) (payloads ++ more)
batch_laid area end bytes payloads more each are ends a b stands change =
    let old = area_of area a in
    let front = header stands.header_is.selector ++ records payloads in
    let tail = drop (end + length bytes) old in
    let size : length front ≡ end = omega (arith, ends, length-append (header stands.header_is.selector) (records payloads)) in
    let split : old ≡ front ++ stands.lays.gate ∷ stands.lays.more =
    stands.header_is.is ∙ ap (λ (l : List ℕ). header stands.header_is.selector ++ l) stands.lays.is ∙ sym (append_assoc (header stands.header_is.selector) (records payloads) (stands.lays.gate ∷ stands.lays.more)) in
    let base : take end old ≡ front = ap (λ (l : List ℕ). take end l) split ∙ take_at front (stands.lays.gate ∷ stands.lays.more) end size in
    let whole : area_of area b ≡ front ++ ((records more ++ closed_gate ∷ []) ++ tail) =
    changed area _ a b change ∙ ap (λ (l : List ℕ). (l ++ bytes) ++ tail) base ∙ ap (λ (l : List ℕ). (front ++ l) ++ tail) are ∙ append_assoc front (records more ++ closed_gate ∷ []) tail in
    record {
      rest = records (payloads ++ more) ++ closed_gate ∷ tail;
      header_is = record {
        selector = stands.header_is.selector;
        is = whole ∙ append_assoc (header stands.header_is.selector) (records payloads) _ ∙ ap (λ (l : List ℕ). header stands.header_is.selector ++ l)
            (ap (λ (l : List ℕ). records payloads ++ l) (append_assoc (records more) (closed_gate ∷ []) tail) ∙ sym (append_assoc (records payloads) (records more) (closed_gate ∷ tail)) ∙ ap (λ (l : List ℕ). l ++ closed_gate ∷ tail) (sym (records-append payloads more)));
      };
      lays = record { gate = closed_gate; more = tail; is = refl; closed = λ h. omega (arith, h); each = ArePayloads-append longest_payload payloads more stands.lays.each each };
    }

pub batch_written : {E : Type 0} (r : Result Unit E) (area : Area) (end : ℕ) (bytes : List ℕ) (old new : DiskView) → InModel old (Writes area end bytes r old.history new.history)
    → OnOk r (InModel old ((payloads more : List (List ℕ)) → ArePayloads longest_payload more → bytes ≡ records more ++ closed_gate ∷ [] → end ≡ end_of payloads
    → StandsFor longest_payload (area_of area (bytes_on old)) payloads → StandsFor longest_payload (area_of area (bytes_on new)) (payloads ++ more)))
batch_written (Ok u) area end bytes old new writes = λ model payloads more each are ends stands. batch_laid area end bytes payloads more each are ends _ _ stands (writes model).written
batch_written (Err e) area end bytes old new writes = tt
