-- What the lines of a script make.
use Rattle.std.proofs.Common.{◌≡◌, ℕ, ◌+◌, ◌-◌, ◌<◌, ◌≤◌, true, false, List, [], ◌∷◌, ◌++◌, map, length, Some, None, refl, sym, ap, ◌∙◌, subst, append_assoc, arith, length-append}
use Rattle.std.specs.Prelude.{◌==◌, nat_lt}
use Rattle.std.specs.List.{AllByRecursion}
use Rattle.std.proofs.lemmas.Bool.Decides.{nat_tests}
use Rattle.worksheet.specs.Checks.{Allowed, field_in, has_session, numbers}
use Rattle.worksheet.specs.Contents.{Contents}
use Rattle.worksheet.specs.Edits.{AllBelow, AreApart, Lacks}
use Rattle.worksheet.specs.Laws.{IsField, IsWorksheet, RewriteMakesTheSame}
use Rattle.worksheet.specs.Ops.{sheet_of}
use Rattle.worksheet.specs.Rewrite.{fields_ops, rewrite_of, session_op, smaller_before}
use Rattle.worksheet.specs.declared.field.Field.{Field}
use Rattle.worksheet.specs.declared.op.Op.{Op}
use Rattle.worksheet.specs.declared.op.Op.TheVariants as op
use Rattle.sheet_export.specs.Replay.{renumbered, new_ops, renumbered_fields, script_ops, ScriptsMakeThemAgain}

-- The fields with other numbers are those of a worksheet.

are_fields : (n : ℕ) (fs : List Field) → 1 ≤ n → AllByRecursion IsField fs → AllByRecursion IsField (renumbered_fields n fs)
are_fields n [] low h = tt
are_fields n (f ∷ fs) low h = (record { numbered = low; input = h.0.input; prompt = tt; outcome = tt }, are_fields (n + 1) fs (omega arith) h.1)

are_many : (n : ℕ) (fs : List Field) → length (renumbered_fields n fs) ≡ length fs
are_many n [] = refl
are_many n (f ∷ fs) = let so = are_many (n + 1) fs in omega (arith, so)

lack_smaller : (m n : ℕ) (fs : List Field) → m < n → Lacks m (numbers (renumbered_fields n fs))
lack_smaller m n [] less = tt
lack_smaller m n (f ∷ fs) less = (grind (arith, nat_tests, less), lack_smaller m (n + 1) fs (omega (arith, less)))

are_apart : (n : ℕ) (fs : List Field) → AreApart (numbers (renumbered_fields n fs))
are_apart n [] = tt
are_apart n (f ∷ fs) = (lack_smaller n (n + 1) fs (omega arith), are_apart (n + 1) fs)

are_below : (bound n : ℕ) (fs : List Field) → n + length fs ≤ bound → AllBelow bound (numbers (renumbered_fields n fs))
are_below bound n [] h = tt
are_below bound n (f ∷ fs) h = (omega (arith, h), are_below bound (n + 1) fs (omega (arith, h)))

belong : (sheet : Contents) (n : ℕ) (fs : List Field) → AllByRecursion (λ field. has_session sheet field.session ≡ true) fs
    → AllByRecursion (λ field. has_session (renumbered sheet) field.session ≡ true) (renumbered_fields n fs)
belong sheet n [] h = tt
belong sheet n (f ∷ fs) h = (h.0, belong sheet (n + 1) fs h.1)

again_is : (sheet : Contents) → IsWorksheet sheet → IsWorksheet (renumbered sheet)
again_is sheet is =
    let many = are_many 1 sheet.fields in
    let few = is.few_fields in
    record {
      fields = are_fields 1 sheet.fields (omega arith) is.fields;
      sessions = is.sessions;
      few_fields = omega (arith, many, few);
      few_sessions = is.few_sessions;
      from_one = omega arith;
      to_last = omega (arith, few);
      numbers = record { apart = are_apart 1 sheet.fields; below = are_below (length sheet.fields + 1) 1 sheet.fields (omega arith) };
      names = is.names;
      belongs = belong sheet 1 sheet.fields is.belongs;
    }

-- They are made one after another.

abbrev with_number : ℕ → Field → Field
with_number number f = record { id = number; session = f.session; input = f.input; answer = None; lost = None }

found_there : (j : ℕ) (gs fs : List Field) (f : Field) (k : ℕ) → k ≡ j + length gs → field_in (renumbered_fields j (gs ++ f ∷ fs)) k ≡ Some (with_number k f)
found_there j [] fs f k e =
    let same : j ≡ k = omega (arith, e) in
    let test : (j == k) ≡ true = grind (arith, nat_tests, same) in
    (rw test refl) ∙ ap (λ n. Some (with_number n f)) same
found_there j (g ∷ gs) fs f k e =
    let test : (j == k) ≡ false = grind (arith, nat_tests, e) in
    (rw test refl) ∙ found_there (j + 1) gs fs f k (omega (arith, e))

nearest : (found j : ℕ) (gs fs : List Field) (f : Field) (k : ℕ) → k ≡ j + length gs → j ≡ found + 1 → smaller_before found k (numbers (renumbered_fields j (gs ++ f ∷ fs))) + 1 ≡ k
nearest found j [] fs f k e next =
    let test : (j == k) ≡ true = grind (arith, nat_tests, e) in
    let here : found + 1 ≡ k = omega (arith, e, next) in
    rw test here
nearest found j (g ∷ gs) fs f k e next =
    let test : (j == k) ≡ false = grind (arith, nat_tests, e) in
    let less : nat_lt j k ≡ true = grind (arith, nat_tests, e) in
    rw (test, less) (nearest j (j + 1) gs fs f k (omega (arith, e)) refl)

in_a_row : (all gs fs : List Field) (place : ℕ) → all ≡ renumbered_fields 1 (gs ++ fs) → place ≡ length gs → fields_ops all (length fs) (place + 1) (place + 1) ≡ new_ops place fs
in_a_row all gs [] place e p =
    let test : (place + 1 == place + 1) ≡ true = grind (arith, nat_tests) in
    rw test refl
in_a_row all gs (f ∷ fs) place e p =
    let test : (place + 1 == place + 1) ≡ true = grind (arith, nat_tests) in
    let there : field_in all (place + 1) ≡ Some (with_number (place + 1) f) = ap (λ fields. field_in fields (place + 1)) e ∙ found_there 1 gs fs f (place + 1) (omega (arith, p)) in
    let near : smaller_before 0 (place + 1) (numbers (renumbered_fields 1 (gs ++ f ∷ fs))) + 1 ≡ place + 1 = nearest 0 1 gs fs f (place + 1) (omega (arith, p)) refl in
    let following : smaller_before 0 (place + 1) (numbers all) ≡ place = ap (λ fields. smaller_before 0 (place + 1) (numbers fields)) e ∙ omega (arith, near) in
    let size = length-append gs (f ∷ []) in
    let more = in_a_row all (gs ++ f ∷ []) fs (place + 1) (e ∙ ap (renumbered_fields 1) (sym (append_assoc gs (f ∷ []) fs))) (omega (arith, p, size)) in
    rw (there, test, following) (ap (λ ops. op.New place f.session f.input ∷ ops) more)

rewritten : (sheet : Contents) → rewrite_of (renumbered sheet) ≡ script_ops sheet
rewritten sheet =
    let count : length sheet.fields + 1 - 1 ≡ length sheet.fields = omega arith in
    ap (λ ops. map session_op sheet.sessions ++ ops) (ap (λ n. fields_ops (renumbered_fields 1 sheet.fields) n 1 1) count ∙ in_a_row (renumbered_fields 1 sheet.fields) [] sheet.fields 0 refl refl)

pub scripts_make : RewriteMakesTheSame → ScriptsMakeThemAgain
scripts_make law sheet is = subst (λ (ops : List Op). Allowed ops × (sheet_of ops ≡ renumbered sheet)) (rewritten sheet) (law (renumbered sheet) (again_is sheet is))
