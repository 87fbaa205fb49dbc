-- Payloads of records, each at its place, and memory for them.
use Rattle.std.proofs.Common.{◌≡◌, ℕ, zero, suc, ◌+◌, ◌<◌, ◌≤◌, List, [], ◌∷◌, get_or, length, map, min, refl, arith, length-append, Result, Ok, Err, OnOk}
use Rattle.std.specs.List.{AllByRecursion}
use Rattle.journal.specs.Area.{ArePayloads, IsPayload, record_of, records}
use Rattle.journal.specs.Limits.{batch_len, longest_payload}
use Rattle.journal.specs.Sources.{HoldsEach}
use Rattle.worksheet.specs.declared.op.Op.{Op}
use Rattle.recovery.specs.Code.{code_of}
use Rattle.recovery.specs.Sheets.{codes_of}
use Rattle.recovery.specs.declared.records.Record.{Record}
use Rattle.recovery.specs.inside.Measured.{HasRecord}
use Rattle.recovery.specs.inside.Records.{op_in}

pub at_place : (rs : List Record) (i : ℕ) (d : Record) → i < length (codes_of (map op_in rs)) → get_or (codes_of (map op_in rs)) i [] ≡ code_of (op_in (get_or rs i d))
at_place [] i d some = absurd (omega (arith, some))
at_place (r ∷ rs) zero d some = refl
at_place (r ∷ rs) (suc i) d some = at_place rs i d (omega (arith, some))

pub has_at : (rs : List Record) (i : ℕ) (d : Record) → AllByRecursion HasRecord (map op_in rs) → i < length (codes_of (map op_in rs)) → HasRecord (op_in (get_or rs i d))
has_at [] i d all some = absurd (omega (arith, some))
has_at (r ∷ rs) zero d all some = all.0
has_at (r ∷ rs) (suc i) d all some = has_at rs i d all.1 (omega (arith, some))

pub as_many : (rs : List Record) → length (codes_of (map op_in rs)) ≡ length rs
as_many [] = refl
as_many (r ∷ rs) = omega (arith, as_many rs)

pub is_payload : (o : Op) → HasRecord o → IsPayload longest_payload (code_of o)
is_payload o has = (omega arith, has.1)

one_of : (ps : List (List ℕ)) (i : ℕ) → i < length ps → ArePayloads longest_payload ps → (length (get_or ps i []) ≤ length (records ps)) × (length (get_or ps i []) ≤ longest_payload)
one_of [] i some each = absurd (omega (arith, some))
one_of (p ∷ ps) zero some each = (omega (arith, length-append (record_of p) (records ps)), each.0.1)
one_of (p ∷ ps) (suc i) some each =
    let rest = one_of ps i (omega (arith, some)) each.1 in
    (omega (arith, rest.0, length-append (record_of p) (records ps)), rest.1)

-- memory for a batch and the longest record
pub holds_each : (capacity : ℕ) (ps : List (List ℕ)) → ArePayloads longest_payload ps → batch_len + 6 + min (length (records ps)) longest_payload ≤ capacity → HoldsEach capacity ps
holds_each capacity ps each memory = λ i some.
    let one = one_of ps i some each in
    omega (arith, one.0, one.1, memory)

pub on_ok : {T E : Type 0} (r : Result T E) (X : Type 0) → X → OnOk r X
on_ok (Ok t) X x = x
on_ok (Err e) X x = tt
