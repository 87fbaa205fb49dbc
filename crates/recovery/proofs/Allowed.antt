-- What is known of ops that a worksheet allows.
use Rattle.std.proofs.Common.{◌≡◌, ℕ, ◌<◌, ◌≤◌, ◌^◌, true, false, List, [], ◌∷◌, ◌++◌, length, None, subst, arith}
use Rattle.std.specs.Prelude.{◌&&◌, nat_le, nat_lt}
use Rattle.std.specs.List.{AllByRecursion, list_all}
use Rattle.std.specs.Str.{is_utf8}
use Rattle.std.proofs.lemmas.Bool.{and_parts}
use Rattle.std.proofs.lemmas.Bool.Decides.{nat_tests}
use Rattle.worksheet.specs.declared.op.Op.{Op}
use Rattle.worksheet.specs.declared.op.Op.TheVariants as op
use Rattle.worksheet.specs.Limits.{longest_input, longest_word, longest_kept_prompt, most_words}
use Rattle.worksheet.specs.Names.{is_name}
use Rattle.worksheet.specs.Contents.{Contents}
use Rattle.worksheet.specs.Ops.{sheet_of}
use Rattle.worksheet.specs.Laws.{IsNamed}
use Rattle.worksheet.specs.Checks.{first_refusal, refusals, has_session, is_input, is_word, are_words}
use Rattle.worksheet.specs.inside.Words.{is_input_byte, is_no_low_byte}
use Rattle.worksheet.proofs.Finds.{none_applies, true_from_not}
use Rattle.worksheet.proofs.NameLaws.{short_name}
use Rattle.worksheet.proofs.NextLaws.{named, sessions_have_names}
use Rattle.worksheet.proofs.Existence.{allowed_goes_on}
use Rattle.journal.specs.Area.{ArePayloads}
use Rattle.journal.specs.Limits.{longest_payload}
use Rattle.recovery.specs.Code.{code_of, HasCode, IsShort, IsLong, IsTyped}
use Rattle.recovery.specs.Laws.{AllowedHaveCode}
use Rattle.recovery.specs.Sheets.{codes_of, Makes}

typed_push : (os : List Op) (o : Op) → AllByRecursion IsTyped os → IsTyped o → AllByRecursion IsTyped (os ++ o ∷ [])
typed_push [] o all one = (one, tt)
typed_push (p ∷ os) o all one = (all.0, typed_push os o all.1 one)

lengths_push : (os : List Op) (o : Op) → ArePayloads longest_payload (codes_of os) → length (code_of o) ≤ longest_payload → ArePayloads longest_payload (codes_of (os ++ o ∷ []))
lengths_push [] o each short = ((omega arith, short), tt)
lengths_push (p ∷ os) o each short = (each.0, lengths_push os o each.1 short)

-- a list of ops that makes a worksheet goes on by an op that this allows
pub makes_more : (os : List Op) (o : Op) (before after : Contents) → Makes os before → IsTyped o → length (code_of o) ≤ longest_payload → first_refusal before o ≡ None → after ≡ sheet_of (os ++ o ∷ []) → Makes (os ++ o ∷ []) after
makes_more os o before after makes typed short next is = record {
  typed = typed_push os o makes.typed typed;
  lengths = lengths_push os o makes.lengths short;
  allowed = allowed_goes_on os o makes.allowed (subst (λ (s : Contents). first_refusal s o ≡ None) makes.is next);
  is = is;
}

-- lengths that are tested

at_most : (n m : ℕ) → nat_le n m ≡ true → n ≤ m
at_most n m h = grind (arith, nat_tests)

not_more : (n m : ℕ) → nat_lt m n ≡ false → n ≤ m
not_more n m h = grind (arith, nat_tests)

short_input : (bytes : List ℕ) → is_input bytes ≡ true → IsLong bytes
short_input bytes h =
    let u = and_parts (nat_le (length bytes) longest_input && list_all is_input_byte bytes) (is_utf8 bytes) h in
    let v = and_parts (nat_le (length bytes) longest_input) (list_all is_input_byte bytes) u.0 in
    omega (arith, at_most (length bytes) longest_input v.0)

short_word : (bytes : List ℕ) → is_word bytes ≡ true → IsLong bytes
short_word bytes h =
    let u = and_parts (nat_le 1 (length bytes) && nat_le (length bytes) longest_word && list_all is_no_low_byte bytes) (is_utf8 bytes) h in
    let v = and_parts (nat_le 1 (length bytes) && nat_le (length bytes) longest_word) (list_all is_no_low_byte bytes) u.0 in
    let w = and_parts (nat_le 1 (length bytes)) (nat_le (length bytes) longest_word) v.0 in
    omega (arith, at_most (length bytes) longest_word w.1)

short_words : (ws : List (List ℕ)) → list_all is_word ws ≡ true → AllByRecursion IsLong ws
short_words [] h = tt
short_words (w ∷ ws) h = let u = and_parts (is_word w) (list_all is_word ws) h in (short_word w u.0, short_words ws u.1)

few_words : (ws : List (List ℕ)) → are_words ws ≡ true → (length ws < 2 ^ 8) × AllByRecursion IsLong ws
few_words ws h =
    let u = and_parts (nat_le 1 (length ws) && nat_le (length ws) most_words) (list_all is_word ws) h in
    let v = and_parts (nat_le 1 (length ws)) (nat_le (length ws) most_words) u.0 in
    (omega (arith, at_most (length ws) most_words v.1), short_words ws u.1)

short_session : (name : List ℕ) → is_name name ≡ true → IsShort name
short_session name h = omega (arith, short_name name h)

code_of_allowed : (sheet : Contents) (o : Op) → AllByRecursion IsNamed sheet.sessions → first_refusal sheet o ≡ None → HasCode o
code_of_allowed sheet (op.Session name tab words) names allowed =
    let none = none_applies (refusals sheet (op.Session name tab words)) allowed in
    let fits = few_words words (true_from_not (are_words words) none.1.1.0) in
    (short_session name (true_from_not (is_name name) none.0), fits.0, fits.1)
code_of_allowed sheet (op.New after session input) names allowed =
    let none = none_applies (refusals sheet (op.New after session input)) allowed in
    (short_session session (named sheet.sessions session names (true_from_not (has_session sheet session) none.0)), short_input input (true_from_not (is_input input) none.1.1.0))
code_of_allowed sheet (op.Set id input) names allowed =
    let none = none_applies (refusals sheet (op.Set id input)) allowed in
    short_input input (true_from_not (is_input input) none.1.0)
code_of_allowed sheet (op.Remove id) names allowed = tt
code_of_allowed sheet (op.Move id after) names allowed = tt
code_of_allowed sheet (op.Clear id) names allowed = tt
code_of_allowed sheet (op.Answer id prompt output) names allowed =
    let none = none_applies (refusals sheet (op.Answer id prompt output)) allowed in
    omega (arith, not_more (length prompt) longest_kept_prompt none.1.0)
code_of_allowed sheet (op.Lost id reason) names allowed = tt
code_of_allowed sheet (op.Ids next) names allowed = tt

pub allowed_have_code : AllowedHaveCode
allowed_have_code os o allowed next = code_of_allowed (sheet_of os) o (sessions_have_names os allowed) next

-- the same of a sheet
pub code_on : (os : List Op) (sheet : Contents) (o : Op) → Makes os sheet → first_refusal sheet o ≡ None → HasCode o
code_on os sheet o makes next = allowed_have_code os o makes.allowed (subst (λ (s : Contents). first_refusal s o ≡ None) makes.is next)
