-- The records of a rewrite: none of their payloads is too long.
use Rattle.std.proofs.Common.{◌≤◌, ◌+◌, ◌-◌, ◌*◌, ◌==◌, ℕ, zero, suc, Bool, true, false, List, [], ◌∷◌, ◌++◌, length, map, Option, Some, None, sym, subst, arith, length-append, if◌then◌else◌}
use Rattle.std.specs.List.{AllByRecursion, flat_map}
use Rattle.worksheet.specs.declared.op.Op.{Op}
use Rattle.worksheet.specs.declared.op.Op.TheVariants as op
use Rattle.worksheet.specs.declared.field.Answer.{Answer}
use Rattle.worksheet.specs.declared.field.Field.{Field}
use Rattle.worksheet.specs.declared.field.Session.{Session}
use Rattle.block_tree.specs.declared.reason.Reason.{Reason}
use Rattle.worksheet.specs.Contents.{Contents}
use Rattle.worksheet.specs.Ops.{about_from, outcome_by, field_of, is_about, last_given, next_after}
use Rattle.worksheet.specs.inside.Words.{about, order_of}
use Rattle.worksheet.specs.Checks.{Allowed, AllowedFrom, field_in, numbers}
use Rattle.worksheet.specs.Edits.{HasNumbersApart}
use Rattle.worksheet.specs.Laws.{IsWorksheet}
use Rattle.worksheet.specs.Rewrite.{field_ops, fields_ops, found_ops, ids_to, lost_ops, outcome_ops, rewrite_of, session_op, smaller_before}
use Rattle.worksheet.proofs.Existence.{allowed_goes_on}
use Rattle.worksheet.proofs.Rewriting.{rewrite_makes_the_same}
use Rattle.worksheet.proofs.WorksheetLaws.{ops_make_worksheets}
use Rattle.journal.specs.Area.{ArePayloads}
use Rattle.journal.specs.Limits.{longest_payload}
use Rattle.recovery.specs.Code.{code_of, flag, long, HasCode, IsLong}
use Rattle.recovery.specs.Laws.{RewritesAreShort}
use Rattle.recovery.specs.Sheets.{codes_of, Makes}
use Rattle.recovery.specs.inside.Measured.{HasRecord}
use Rattle.recovery.proofs.Allowed.{allowed_have_code}
use Rattle.recovery.proofs.Gathering.{all_append}

-- Each answer of a worksheet is that of one of its ops.

-- the op of an answer fits a record, whatever the field's number
abbrev AnswerFits : Option Answer → Type 0
AnswerFits None = Unit {0}
AnswerFits (Some answer) = length (code_of (op.Answer 0 answer.prompt answer.output)) ≤ longest_payload

given_fits : (os : List Op) (given : Option Answer × Option Reason) → AnswerFits given.0 → ArePayloads longest_payload (codes_of os) → AnswerFits (last_given outcome_by given os).0
given_fits [] given fits each = fits
given_fits (op.Session name tab words ∷ os) given fits each = given_fits os given fits each.1
given_fits (op.New after session input ∷ os) given fits each = given_fits os (None, None) tt each.1
given_fits (op.Set id input ∷ os) given fits each = given_fits os (None, None) tt each.1
given_fits (op.Remove id ∷ os) given fits each = given_fits os given fits each.1
given_fits (op.Move id after ∷ os) given fits each = given_fits os given fits each.1
given_fits (op.Clear id ∷ os) given fits each = given_fits os (None, None) tt each.1
given_fits (op.Answer id prompt output ∷ os) given fits each = given_fits os (Some (record { prompt = prompt; output = output }), None) each.0.1 each.1
given_fits (op.Lost id reason ∷ os) given fits each = given_fits os (None, Some reason) tt each.1
given_fits (op.Ids number ∷ os) given fits each = given_fits os given fits each.1

about_fit : (id next : ℕ) (os : List Op) → ArePayloads longest_payload (codes_of os) → ArePayloads longest_payload (codes_of (about_from id next os))
about_fit id next [] each = tt
about_fit id next (o ∷ os) each = go (is_about id next o) (about_fit id (next_after next o) os each.1)
  where
    go : (b : Bool) → ArePayloads longest_payload (codes_of (about_from id (next_after next o) os))
        → ArePayloads longest_payload (codes_of (if b then o ∷ about_from id (next_after next o) os else about_from id (next_after next o) os))
    go true rest = (each.0, rest)
    go false rest = rest

abbrev FieldFits : Field → Type 0
FieldFits field = AnswerFits field.answer

fields_fit : (os : List Op) → ArePayloads longest_payload (codes_of os) → (ids : List ℕ) → AllByRecursion FieldFits (map (field_of os) ids)
fields_fit os each [] = tt
fields_fit os each (id ∷ ids) = (given_fits (about id os) (None, None) tt (about_fit id 1 os each), fields_fit os each ids)

-- So is each of a rewrite.

-- an op fits a record where it gives an answer
abbrev FitsAsAnswer : Op → Type 0
FitsAsAnswer (op.Session name tab words) = Unit {0}
FitsAsAnswer (op.New after session input) = Unit {0}
FitsAsAnswer (op.Set id input) = Unit {0}
FitsAsAnswer (op.Remove id) = Unit {0}
FitsAsAnswer (op.Move id after) = Unit {0}
FitsAsAnswer (op.Clear id) = Unit {0}
FitsAsAnswer (op.Answer id prompt output) = length (code_of (op.Answer id prompt output)) ≤ longest_payload
FitsAsAnswer (op.Lost id reason) = Unit {0}
FitsAsAnswer (op.Ids number) = Unit {0}

sessions_short : (sessions : List Session) → AllByRecursion FitsAsAnswer (map session_op sessions)
sessions_short [] = tt
sessions_short (s ∷ sessions) = (tt, sessions_short sessions)

ids_short : (next number : ℕ) → AllByRecursion FitsAsAnswer (ids_to next number)
ids_short next number = go (next == number)
  where
    go : (b : Bool) → AllByRecursion FitsAsAnswer (if b then [] else op.Ids number ∷ [])
    go true = tt
    go false = (tt, tt)

lost_short : (id : ℕ) (lost : Option Reason) → AllByRecursion FitsAsAnswer (lost_ops id lost)
lost_short id None = tt
lost_short id (Some reason) = (tt, tt)

outcome_short : (id : ℕ) (answer : Option Answer) (lost : Option Reason) → AnswerFits answer → AllByRecursion FitsAsAnswer (outcome_ops id answer lost)
outcome_short id None lost fits = lost_short id lost
outcome_short id (Some answer) lost fits = (fits, tt)

field_short : (fields : List Field) (next : ℕ) (f : Field) → FieldFits f → AllByRecursion FitsAsAnswer (field_ops fields next f)
field_short fields next f fits =
    all_append FitsAsAnswer (ids_to next f.id) (op.New (smaller_before 0 f.id (numbers fields)) f.session f.input ∷ outcome_ops f.id f.answer f.lost)
    (ids_short next f.id) (tt, outcome_short f.id f.answer f.lost fits)

abbrev FoundFits : Option Field → Type 0
FoundFits None = Unit {0}
FoundFits (Some f) = FieldFits f

found_fits : (fields : List Field) (id : ℕ) → AllByRecursion FieldFits fields → FoundFits (field_in fields id)
found_fits [] id each = tt
found_fits (f ∷ fields) id each = go (f.id == id) (found_fits fields id each.1)
  where
    go : (b : Bool) → FoundFits (field_in fields id) → FoundFits (if b then Some f else field_in fields id)
    go true rest = each.0
    go false rest = rest

fields_short : (fields : List Field) → AllByRecursion FieldFits fields → (count number next : ℕ) → AllByRecursion FitsAsAnswer (fields_ops fields count number next)
fields_short fields each zero number next = ids_short next number
fields_short fields each (suc count) number next =
    go (field_in fields number) (found_fits fields number each) (fields_short fields each count (number + 1) (number + 1)) (fields_short fields each count (number + 1) next)
  where
    go : (found : Option Field) → FoundFits found → AllByRecursion FitsAsAnswer (fields_ops fields count (number + 1) (number + 1)) → AllByRecursion FitsAsAnswer (fields_ops fields count (number + 1) next)
        → AllByRecursion FitsAsAnswer (found_ops fields next found (fields_ops fields count (number + 1) (number + 1)) (fields_ops fields count (number + 1) next))
    go None fits following without = without
    go (Some f) fits following without = all_append FitsAsAnswer (field_ops fields next f) (fields_ops fields count (number + 1) (number + 1)) (field_short fields next f fits) following

rewrite_short : (sheet : Contents) → AllByRecursion FieldFits sheet.fields → AllByRecursion FitsAsAnswer (rewrite_of sheet)
rewrite_short sheet each =
    all_append FitsAsAnswer (map session_op sheet.sessions) (fields_ops sheet.fields (sheet.next - 1) 1 1) (sessions_short sheet.sessions) (fields_short sheet.fields each (sheet.next - 1) 1 1)

-- Every other op is short.

words_length : (words : List (List ℕ)) → AllByRecursion IsLong words → length (flat_map long words) ≤ 65537 * length words
words_length [] each = omega arith
words_length (w ∷ words) each = omega (arith, length-append (long w) (flat_map long words), each.0, words_length words each.1)

record_of_code : (o : Op) → HasCode o → FitsAsAnswer o → HasRecord o
record_of_code (op.Session name tab words) code fits = (code, omega (arith, code.0, code.1, words_length words code.2, length-append name (flag tab ∷ length words ∷ flat_map long words)))
record_of_code (op.New after session input) code fits = (code, omega (arith, code.0, code.1, length-append session (long input)))
record_of_code (op.Set id input) code fits = (code, omega (arith, code))
record_of_code (op.Remove id) code fits = (code, omega arith)
record_of_code (op.Move id after) code fits = (code, omega arith)
record_of_code (op.Clear id) code fits = (code, omega arith)
record_of_code (op.Answer id prompt output) code fits = (code, fits)
record_of_code (op.Lost id reason) code fits = (code, omega arith)
record_of_code (op.Ids number) code fits = (code, omega arith)

-- So all of a rewrite fit.

all_have_records : (before os : List Op) → Allowed before → AllowedFrom before os → AllByRecursion FitsAsAnswer os → AllByRecursion HasRecord os
all_have_records before [] front allowed fit = tt
all_have_records before (o ∷ os) front allowed fit =
    (record_of_code o (allowed_have_code before o front allowed.0) fit.0, all_have_records (before ++ o ∷ []) os (allowed_goes_on before o front allowed.0) allowed.1 fit.1)

is_worksheet : (ops : List Op) (sheet : Contents) → Makes ops sheet → IsWorksheet sheet
is_worksheet ops sheet makes = subst IsWorksheet (sym makes.is) (ops_make_worksheets ops makes.allowed)

pub records_again : (ops : List Op) (sheet : Contents) → Makes ops sheet → AllByRecursion HasRecord (rewrite_of sheet)
records_again ops sheet makes =
    let fit = subst (λ (s : Contents). AllByRecursion FieldFits s.fields) (sym makes.is) (fields_fit ops makes.lengths (order_of ops)) in
    all_have_records [] (rewrite_of sheet) tt (rewrite_makes_the_same sheet (is_worksheet ops sheet makes)).0 (rewrite_short sheet fit)

payloads_of : (os : List Op) → AllByRecursion HasRecord os → ArePayloads longest_payload (codes_of os)
payloads_of [] each = tt
payloads_of (o ∷ os) each = ((omega arith, each.0.1), payloads_of os each.1)

pub rewrites_are_short : RewritesAreShort
rewrites_are_short ops sheet makes = payloads_of (rewrite_of sheet) (records_again ops sheet makes)

pub next_some : (ops : List Op) (sheet : Contents) → Makes ops sheet → 1 ≤ sheet.next
next_some ops sheet makes = (is_worksheet ops sheet makes).from_one

pub numbers_apart : (ops : List Op) (sheet : Contents) → Makes ops sheet → HasNumbersApart sheet
numbers_apart ops sheet makes = (is_worksheet ops sheet makes).numbers
