-- A worksheet of allowed ops is one, and its numbers rise.
use Rattle.std.proofs.Common.{◌≡◌, ℕ, ◌+◌, ◌<◌, ◌≤◌, ◌==◌, ◌||◌, Bool, true, false, List, [], ◌∷◌, ◌++◌, length, Option, Some, None, refl, sym, subst, append_assoc, append-nil, arith, length-append}
use Rattle.std.specs.Prelude.{not, nat_le, nat_lt, if◌then◌else◌}
use Rattle.std.specs.List.{AllByRecursion}
use Rattle.std.proofs.lemmas.Bool.Decides.{nat_tests}
use Rattle.std.proofs.lemmas.List.{length-map}
use Rattle.worksheet.specs.declared.op.Op.{Op}
use Rattle.worksheet.specs.declared.op.Op.TheVariants as op
use Rattle.worksheet.specs.declared.field.Field.{Field}
use Rattle.worksheet.specs.declared.field.Session.{Session}
use Rattle.worksheet.specs.Limits.{last_number, longest_kept_prompt, most_fields, most_sessions}
use Rattle.worksheet.specs.Names.{is_name}
use Rattle.worksheet.specs.Contents.{Contents}
use Rattle.worksheet.specs.Ops.{next_of, next_after, put_after, sheet_of}
use Rattle.worksheet.specs.Edits.{edited, at_field, with_input, with_outcome, placed_field, fields_without, moved}
use Rattle.worksheet.specs.Checks.{Allowed, AllowedFrom, are_words, field_in, first_refusal, is_input, refusals, session_named}
use Rattle.worksheet.specs.Laws.{AreNamedApart, IsField, IsSession, IsWorksheet}
use Rattle.worksheet.proofs.Finds.{none_applies, true_from_not}
use Rattle.worksheet.proofs.SoundLaws.{IsSound-edited, no_less}
use Rattle.worksheet.proofs.OneMore.{next_from-push}
use Rattle.worksheet.proofs.Existence.{allowed_goes_on}
use Rattle.worksheet.proofs.ApartLaws.{all_placed, all_kept, all_changed, all_moved, apart_push, belong_one, none_of, sheet_after}

-- Numbers.

rises_one : (sheet : Contents) (o : Op) → first_refusal sheet o ≡ None → sheet.next ≤ next_after sheet.next o
rises_one sheet (op.Session name tab words) allowed = omega arith
rises_one sheet (op.New after session input) allowed = omega arith
rises_one sheet (op.Set id input) allowed = omega arith
rises_one sheet (op.Remove id) allowed = omega arith
rises_one sheet (op.Move id after) allowed = omega arith
rises_one sheet (op.Clear id) allowed = omega arith
rises_one sheet (op.Answer id prompt output) allowed = omega arith
rises_one sheet (op.Lost id reason) allowed = omega arith
rises_one sheet (op.Ids number) allowed =
    let passed : (nat_lt number sheet.next || nat_lt (last_number + 1) number) ≡ false = (none_applies (refusals sheet (op.Ids number)) allowed).0 in
    no_less sheet.next number (nat_lt (last_number + 1) number) passed

rises : (before os : List Op) → AllowedFrom before os → next_of before ≤ next_of (before ++ os)
rises before [] allowed = rw (append-nil before) (omega arith)
rises before (o ∷ os) allowed =
    let one : next_of before ≤ next_of (before ++ o ∷ []) = rw (next_from-push 1 before o) (rises_one (sheet_of before) o allowed.0) in
    let more : next_of (before ++ o ∷ []) ≤ next_of (before ++ o ∷ os) = subst (λ (qs : List Op). next_of (before ++ o ∷ []) ≤ next_of qs) (append_assoc before (o ∷ []) os) (rises (before ++ o ∷ []) os allowed.1) in
    omega (arith, one, more)

back_from : (before os more : List Op) → AllowedFrom before (os ++ more) → AllowedFrom (before ++ os) more
back_from before [] more allowed = subst (λ (qs : List Op). AllowedFrom qs more) (sym (append-nil before)) allowed
back_from before (o ∷ os) more allowed = subst (λ (qs : List Op). AllowedFrom qs more) (append_assoc before (o ∷ []) os) (back_from (before ++ o ∷ []) os more allowed.1)

pub numbers_rise : (os more : List Op) → Allowed (os ++ more) → next_of os ≤ next_of (os ++ more)
numbers_rise os more allowed = rises os more (back_from [] os more allowed)

pub no_number_twice : (os more : List Op) (after : ℕ) (session input : List ℕ) → Allowed (os ++ op.New after session input ∷ more)
    → next_of os < next_of (os ++ op.New after session input ∷ more)
no_number_twice os more after session input allowed =
    let o = op.New after session input in
    let here = back_from [] os (o ∷ more) allowed in
    let following : next_of (os ++ o ∷ []) ≤ next_of (os ++ o ∷ more) = subst (λ (qs : List Op). next_of (os ++ o ∷ []) ≤ next_of qs) (append_assoc os (o ∷ []) more) (rises (os ++ o ∷ []) more here.1) in
    let one : next_of (os ++ o ∷ []) ≡ next_of os + 1 = next_from-push 1 os o in
    omega (arith, following, one)

-- How many fields.

length-put_after : (test : Field → Bool) (x : Field) (fs : List Field) → length (put_after test x fs) ≤ length fs + 1
length-put_after test x [] = omega arith
length-put_after test x (f ∷ fs) = go (test f) (length-put_after test x fs)
  where
    go : (b : Bool) → length (put_after test x fs) ≤ length fs + 1 → length (if b then f ∷ x ∷ fs else f ∷ put_after test x fs) ≤ length (f ∷ fs) + 1
    go true rest = omega arith
    go false rest = omega arith

length-placed_field : (after : ℕ) (x : Field) (fs : List Field) → length (placed_field after x fs) ≤ length fs + 1
length-placed_field after x fs = go (after == 0)
  where
    go : (b : Bool) → length (if b then x ∷ fs else put_after (λ other. other.id == after) x fs) ≤ length fs + 1
    go true = omega arith
    go false = length-put_after (λ other. other.id == after) x fs

length-fields_without : (id : ℕ) (fs : List Field) → length (fields_without id fs) ≤ length fs
length-fields_without id [] = omega arith
length-fields_without id (f ∷ fs) = go (f.id == id) (length-fields_without id fs)
  where
    go : (b : Bool) → length (fields_without id fs) ≤ length fs → length (if not b then f ∷ fields_without id fs else fields_without id fs) ≤ length (f ∷ fs)
    go true rest = omega arith
    go false rest = omega arith

-- where a field is found, one less is left without it
length-taken : (id : ℕ) (fs : List Field) (x : Field) → field_in fs id ≡ Some x → length (fields_without id fs) + 1 ≤ length fs
length-taken id [] x h = cc
length-taken id (f ∷ fs) x h = go (f.id == id) h (length-taken id fs x)
  where
    go : (b : Bool) → (if b then Some f else field_in fs id) ≡ Some x → (field_in fs id ≡ Some x → length (fields_without id fs) + 1 ≤ length fs)
        → length (if not b then f ∷ fields_without id fs else fields_without id fs) + 1 ≤ length (f ∷ fs)
    go true h rest = omega (arith, length-fields_without id fs)
    go false h rest = omega (arith, rest h)

length-moved : (id after : ℕ) (fs : List Field) (found : Option Field) → field_in fs id ≡ found → length (moved id after fs found) ≤ length fs
length-moved id after fs None h = omega arith
length-moved id after fs (Some x) h = omega (arith, length-placed_field after x (fields_without id fs), length-taken id fs x h)

-- One op.

-- what isn't at its most has room for one more
one_more : (most n : ℕ) → nat_le most n ≡ false → n + 1 ≤ most
one_more most n h = grind (arith, nat_tests)

few_fields_one : (sheet : Contents) (o : Op) → first_refusal sheet o ≡ None → length sheet.fields ≤ most_fields → length (edited sheet o).fields ≤ most_fields
few_fields_one sheet (op.Session name tab words) next few = few
few_fields_one sheet (op.New after session input) next few =
    let passed = none_applies (refusals sheet (op.New after session input)) next in
    let room = one_more most_fields (length sheet.fields) passed.1.1.1.0 in
    omega (arith, room, length-placed_field after (record { id = sheet.next; session = session; input = input; answer = None; lost = None }) sheet.fields)
few_fields_one sheet (op.Set id input) next few = rw (length-map sheet.fields (at_field id (with_input input))) few
few_fields_one sheet (op.Remove id) next few = omega (arith, few, length-fields_without id sheet.fields)
few_fields_one sheet (op.Move id after) next few = omega (arith, few, length-moved id after sheet.fields (field_in sheet.fields id) refl)
few_fields_one sheet (op.Clear id) next few = rw (length-map sheet.fields (at_field id (with_outcome None None))) few
few_fields_one sheet (op.Answer id prompt output) next few = rw (length-map sheet.fields (at_field id (with_outcome (Some (record { prompt = prompt; output = output })) None))) few
few_fields_one sheet (op.Lost id reason) next few = rw (length-map sheet.fields (at_field id (with_outcome None (Some reason)))) few
few_fields_one sheet (op.Ids number) next few = few

fields_one : (sheet : Contents) (o : Op) → first_refusal sheet o ≡ None → IsWorksheet sheet → AllByRecursion IsField (edited sheet o).fields
fields_one sheet (op.Session name tab words) next w = w.fields
fields_one sheet (op.New after session input) next w =
    let passed = none_applies (refusals sheet (op.New after session input)) next in
    all_placed IsField after (record { id = sheet.next; session = session; input = input; answer = None; lost = None }) sheet.fields
    (record { numbered = w.from_one; input = true_from_not (is_input input) passed.1.1.0; prompt = tt; outcome = tt }) w.fields
fields_one sheet (op.Set id input) next w =
    let right = true_from_not (is_input input) (none_applies (refusals sheet (op.Set id input)) next).1.0 in
    all_changed IsField id (with_input input) (λ f p. record { numbered = p.numbered; input = right; prompt = tt; outcome = tt }) sheet.fields w.fields
fields_one sheet (op.Remove id) next w = all_kept IsField (λ field. not (field.id == id)) sheet.fields w.fields
fields_one sheet (op.Move id after) next w = all_moved IsField id after sheet.fields (field_in sheet.fields id) refl w.fields
fields_one sheet (op.Clear id) next w = all_changed IsField id (with_outcome None None) (λ f p. record { numbered = p.numbered; input = p.input; prompt = tt; outcome = tt }) sheet.fields w.fields
fields_one sheet (op.Answer id prompt output) next w =
    let long : nat_lt longest_kept_prompt (length prompt) ≡ false = (none_applies (refusals sheet (op.Answer id prompt output)) next).1.0 in
    let short : length prompt ≤ longest_kept_prompt = grind (arith, nat_tests) in
    all_changed IsField id (with_outcome (Some (record { prompt = prompt; output = output })) None)
    (λ f p. record { numbered = p.numbered; input = p.input; prompt = short; outcome = refl }) sheet.fields w.fields
fields_one sheet (op.Lost id reason) next w = all_changed IsField id (with_outcome None (Some reason)) (λ f p. record { numbered = p.numbered; input = p.input; prompt = tt; outcome = tt }) sheet.fields w.fields
fields_one sheet (op.Ids number) next w = w.fields

all_push : (P : Session → Type 0) (ss : List Session) (s : Session) → AllByRecursion P ss → P s → AllByRecursion P (ss ++ s ∷ [])
all_push P [] s all p = (p, tt)
all_push P (t ∷ ss) s all p = (all.0, all_push P ss s all.1 p)

keeps : (sheet : Contents) (o : Op) → first_refusal sheet o ≡ None → IsWorksheet sheet → AllByRecursion IsSession (edited sheet o).sessions
    → length (edited sheet o).sessions ≤ most_sessions → AreNamedApart (edited sheet o).sessions → 1 ≤ (edited sheet o).next → (edited sheet o).next ≤ last_number + 1
    → IsWorksheet (edited sheet o)
keeps sheet o next w sessions few_sessions names from_one to_last = record {
  fields = fields_one sheet o next w;
  sessions = sessions;
  few_fields = few_fields_one sheet o next w.few_fields;
  few_sessions = few_sessions;
  from_one = from_one;
  to_last = to_last;
  numbers = IsSound-edited sheet o next w.numbers;
  names = names;
  belongs = belong_one sheet o next w.belongs;
}

no_more : (number : ℕ) (less : Bool) → (less || nat_lt (last_number + 1) number) ≡ false → number ≤ last_number + 1
no_more number true h = cc
no_more number false h = let low : nat_lt (last_number + 1) number ≡ false = h in grind (arith, nat_tests)

pub edits_keep_worksheets : (sheet : Contents) (o : Op) → IsWorksheet sheet → first_refusal sheet o ≡ None → IsWorksheet (edited sheet o)
edits_keep_worksheets sheet (op.Session name tab words) w next =
    let passed = none_applies (refusals sheet (op.Session name tab words)) next in
    let s : Session = record { name = name; tab = tab; words = words } in
    let room = one_more most_sessions (length sheet.sessions) passed.1.1.1.0 in
    keeps sheet (op.Session name tab words) next w
    (all_push IsSession sheet.sessions s w.sessions (record { named = true_from_not (is_name name) passed.0; words = true_from_not (are_words words) passed.1.1.0 }))
    (omega (arith, room, length-append sheet.sessions (s ∷ [])))
    (apart_push sheet.sessions s w.names (none_of (session_named sheet.sessions name) passed.1.0))
    w.from_one w.to_last
edits_keep_worksheets sheet (op.New after session input) w next =
    let spent : nat_lt last_number sheet.next ≡ false = (none_applies (refusals sheet (op.New after session input)) next).1.1.1.1.0 in
    let left : sheet.next ≤ last_number = grind (arith, nat_tests) in
    keeps sheet (op.New after session input) next w w.sessions w.few_sessions w.names (omega arith) (omega (arith, left))
edits_keep_worksheets sheet (op.Set id input) w next = keeps sheet (op.Set id input) next w w.sessions w.few_sessions w.names w.from_one w.to_last
edits_keep_worksheets sheet (op.Remove id) w next = keeps sheet (op.Remove id) next w w.sessions w.few_sessions w.names w.from_one w.to_last
edits_keep_worksheets sheet (op.Move id after) w next = keeps sheet (op.Move id after) next w w.sessions w.few_sessions w.names w.from_one w.to_last
edits_keep_worksheets sheet (op.Clear id) w next = keeps sheet (op.Clear id) next w w.sessions w.few_sessions w.names w.from_one w.to_last
edits_keep_worksheets sheet (op.Answer id prompt output) w next = keeps sheet (op.Answer id prompt output) next w w.sessions w.few_sessions w.names w.from_one w.to_last
edits_keep_worksheets sheet (op.Lost id reason) w next = keeps sheet (op.Lost id reason) next w w.sessions w.few_sessions w.names w.from_one w.to_last
edits_keep_worksheets sheet (op.Ids number) w next =
    let passed : (nat_lt number sheet.next || nat_lt (last_number + 1) number) ≡ false = (none_applies (refusals sheet (op.Ids number)) next).0 in
    let low = no_less sheet.next number (nat_lt (last_number + 1) number) passed in
    keeps sheet (op.Ids number) next w w.sessions w.few_sessions w.names (omega (arith, low, w.from_one)) (no_more number (nat_lt number sheet.next) passed)

-- All ops.

worksheet_from : (before os : List Op) → Allowed before → IsWorksheet (sheet_of before) → AllowedFrom before os → IsWorksheet (sheet_of (before ++ os))
worksheet_from before [] front is allowed = subst (λ (os : List Op). IsWorksheet (sheet_of os)) (sym (append-nil before)) is
worksheet_from before (o ∷ os) front is allowed =
    let more : IsWorksheet (sheet_of (before ++ o ∷ [])) = subst IsWorksheet (sym (sheet_after before o front allowed.0)) (edits_keep_worksheets (sheet_of before) o is allowed.0) in
    subst (λ (qs : List Op). IsWorksheet (sheet_of qs)) (append_assoc before (o ∷ []) os) (worksheet_from (before ++ o ∷ []) os (allowed_goes_on before o front allowed.0) more allowed.1)

empty : IsWorksheet (sheet_of [])
empty = record {
  fields = tt;
  sessions = tt;
  few_fields = omega arith;
  few_sessions = omega arith;
  from_one = omega arith;
  to_last = omega arith;
  numbers = record { apart = tt; below = tt };
  names = tt;
  belongs = tt;
}

pub ops_make_worksheets : (os : List Op) → Allowed os → IsWorksheet (sheet_of os)
ops_make_worksheets os allowed = worksheet_from [] os tt empty allowed
