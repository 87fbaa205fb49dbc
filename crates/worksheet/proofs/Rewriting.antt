-- The ops that make a worksheet again make it.
use Rattle.std.proofs.Common.{◌≡◌, ℕ, ◌+◌, ◌-◌, ◌<◌, ◌≤◌, ◌==◌, ◌||◌, zero, suc, Bool, true, false, List, [], ◌∷◌, ◌++◌, map, length, Option, Some, None, refl, sym, ap, ◌∙◌, subst, append_assoc, append-nil, arith, length-append}
use Rattle.std.specs.Prelude.{not, filter, is_some, nat_le, nat_lt, if◌then◌else◌}
use Rattle.std.specs.List.{AllByRecursion}
use Rattle.std.specs.Str.{bytes_eq}
use Rattle.std.proofs.lemmas.Bool.Decides.{nat_tests}
use Rattle.block_tree.specs.declared.reason.Reason.{Reason}
use Rattle.worksheet.specs.declared.op.Op.{Op}
use Rattle.worksheet.specs.declared.op.Op.TheVariants as op
use Rattle.worksheet.specs.declared.refusal.Refusal.{Refusal}
use Rattle.worksheet.specs.declared.field.Answer.{Answer}
use Rattle.worksheet.specs.declared.field.Field.{Field}
use Rattle.worksheet.specs.declared.field.Session.{Session}
use Rattle.worksheet.specs.Limits.{last_number, longest_kept_prompt, most_fields, most_sessions}
use Rattle.worksheet.specs.Names.{is_name}
use Rattle.worksheet.specs.Contents.{Contents}
use Rattle.worksheet.specs.Ops.{put_after, sheet_of}
use Rattle.worksheet.specs.Edits.{Lacks, AreApart, AllBelow, contents_with, edited, at_field, with_outcome, placed_field}
use Rattle.worksheet.specs.Checks.{Allowed, are_words, field_in, first_of, first_refusal, has_session, is_input, numbers, refusals, session_named}
use Rattle.worksheet.specs.Laws.{AreNamedApart, IsField, IsSession, IsWorksheet, HasOneOutcome, HasShortPrompt}
use Rattle.worksheet.specs.Rewrite.{session_op, ids_to, smaller_before, outcome_ops, field_ops, found_ops, fields_ops, rewrite_of}
use Rattle.worksheet.proofs.Finds.{NoneApplies, field_in-id}
use Rattle.worksheet.proofs.Existence.{allowed_goes_on}
use Rattle.worksheet.proofs.ApartLaws.{found_in, not_first, sheet_after, turned}
use Rattle.worksheet.proofs.Placing.{answered_placed, itself, there_placed}

-- Runs of ops.

applies_none : (rs : List (Refusal × Bool)) → NoneApplies rs → first_of rs ≡ None
applies_none [] h = refl
applies_none (r ∷ rs) h = rw h.0 (applies_none rs h.1)

-- these ops are allowed, and make this worksheet
record Reached (os : List Op) (sheet : Contents) : Type 0 where
  pub allowed : Allowed os
  pub is : sheet_of os ≡ sheet

step : (os : List Op) (sheet : Contents) (o : Op) → NoneApplies (refusals sheet o) → Reached os sheet → Reached (os ++ o ∷ []) (edited sheet o)
step os sheet o none r =
    let next = subst (λ (s : Contents). first_refusal s o ≡ None) (sym r.is) (applies_none (refusals sheet o) none) in
    record {
      allowed = allowed_goes_on os o r.allowed next;
      is = sheet_after os o r.allowed next ∙ ap (λ (s : Contents). edited s o) r.is;
    }

joined : (os : List Op) (o : Op) (more : List Op) (sheet : Contents) → Reached ((os ++ o ∷ []) ++ more) sheet → Reached (os ++ o ∷ more) sheet
joined os o more sheet r = subst (λ (qs : List Op). Reached qs sheet) (append_assoc os (o ∷ []) more) r

-- Sessions.

no_session : (front ss : List Session) (s : Session) → AreNamedApart (front ++ s ∷ ss) → session_named front s.name ≡ None
no_session [] ss s apart = refl
no_session (f ∷ front) ss s apart =
    let no = unnamed front ss s f.name apart.0 in
    rw (turned s.name f.name no) (no_session front ss s apart.1)
  where
    unnamed : (front ss : List Session) (s : Session) (name : List ℕ) → session_named (front ++ s ∷ ss) name ≡ None → bytes_eq s.name name ≡ false
    unnamed [] ss s name none = (not_first s ss name none).0
    unnamed (f ∷ front) ss s name none = unnamed front ss s name (not_first f (front ++ s ∷ ss) name none).1

sessions_run : (front ss : List Session) (os : List Op) → AreNamedApart (front ++ ss) → AllByRecursion IsSession ss → length (front ++ ss) ≤ most_sessions
    → Reached os (contents_with [] front 1) → Reached (os ++ map session_op ss) (contents_with [] (front ++ ss) 1)
sessions_run front [] os apart each few r =
    subst (λ (qs : List Op). Reached qs (contents_with [] (front ++ []) 1)) (sym (append-nil os))
    (subst (λ (l : List Session). Reached os (contents_with [] l 1)) (sym (append-nil front)) r)
sessions_run front (s ∷ ss) os apart each few r =
    let all : (front ++ s ∷ []) ++ ss ≡ front ++ s ∷ ss = append_assoc front (s ∷ []) ss in
    let named : not (is_name s.name) ≡ false = rw each.0.named refl in
    let alone : has_session (contents_with [] front 1) s.name ≡ false = rw (no_session front ss s apart) refl in
    let words : not (are_words s.words) ≡ false = rw each.0.words refl in
    let size = length-append front (s ∷ ss) in
    let less : length front < most_sessions = omega (arith, few, size) in
    let room : nat_le most_sessions (length front) ≡ false = grind (arith, nat_tests) in
    let one = step os (contents_with [] front 1) (session_op s) (named, (alone, (words, (room, tt)))) r in
    let more = sessions_run (front ++ s ∷ []) ss (os ++ session_op s ∷ []) (subst AreNamedApart (sym all) apart) each.1 (subst (λ (l : List Session). length l ≤ most_sessions) (sym all) few) one in
    subst (λ (l : List Session). Reached (os ++ session_op s ∷ map session_op ss) (contents_with [] l 1)) all
    (joined os (session_op s) (map session_op ss) (contents_with [] ((front ++ s ∷ []) ++ ss) 1) more)

-- Fields below a number.

abbrev below : ℕ → List Field → List Field
below bound fs = filter (λ field. nat_lt field.id bound) fs

-- those up to a number that no field has are those below it
below_lacking : (id : ℕ) (fs : List Field) → Lacks id (numbers fs) → below (id + 1) fs ≡ below id fs
below_lacking id [] lacks = refl
below_lacking id (g ∷ gs) lacks = rw same (ap (λ (l : List Field). if nat_lt g.id id then g ∷ l else l) (below_lacking id gs lacks.1))
  where
    same : nat_lt g.id (id + 1) ≡ nat_lt g.id id
    same = go (nat_lt g.id id) refl
      where
        go : (b : Bool) → nat_lt g.id id ≡ b → nat_lt g.id (id + 1) ≡ b
        go true e = grind (arith, nat_tests)
        go false e = let other = lacks.0 in grind (arith, nat_tests)

lacks_none : (id : ℕ) (fs : List Field) → field_in fs id ≡ None → Lacks id (numbers fs)
lacks_none id [] none = tt
lacks_none id (g ∷ gs) none = go (g.id == id) refl none (lacks_none id gs)
  where
    go : (b : Bool) → (g.id == id) ≡ b → (if b then Some g else field_in gs id) ≡ None → (field_in gs id ≡ None → Lacks id (numbers gs)) → Lacks id (numbers (g ∷ gs))
    go true e none rest = let no : Some g ≡ None = none in cc
    go false e none rest = (e, rest none)

below_all : (bound : ℕ) (fs : List Field) → AllBelow bound (numbers fs) → below bound fs ≡ fs
below_all bound [] all = refl
below_all bound (g ∷ gs) all =
    let less : g.id < bound = all.0 in
    let t : nat_lt g.id bound ≡ true = grind (arith, nat_tests) in
    rw t (ap (λ (l : List Field). g ∷ l) (below_all bound gs all.1))

below_one : (fs : List Field) → AllByRecursion IsField fs → below 1 fs ≡ []
below_one [] all = refl
below_one (g ∷ gs) all =
    let some : 1 ≤ g.id = all.0.numbered in
    let f : nat_lt g.id 1 ≡ false = grind (arith, nat_tests) in
    rw f (below_one gs all.1)

lacks_below : (id : ℕ) (fs : List Field) → Lacks id (numbers (below id fs))
lacks_below id [] = tt
lacks_below id (g ∷ gs) = go (nat_lt g.id id) refl (lacks_below id gs)
  where
    go : (b : Bool) → nat_lt g.id id ≡ b → Lacks id (numbers (below id gs)) → Lacks id (numbers (if b then g ∷ below id gs else below id gs))
    go true e rest = (grind (arith, nat_tests), rest)
    go false e rest = rest

length-below : (bound : ℕ) (fs : List Field) → length (below bound fs) ≤ length fs
length-below bound [] = omega arith
length-below bound (g ∷ gs) = go (nat_lt g.id bound) (length-below bound gs)
  where
    go : (b : Bool) → length (below bound gs) ≤ length gs → length (if b then g ∷ below bound gs else below bound gs) ≤ length (g ∷ gs)
    go true h = omega (arith, h)
    go false h = omega (arith, h)

-- there is one more than those below it
fewer : (id : ℕ) (fs : List Field) (f : Field) → field_in fs id ≡ Some f → length (below id fs) + 1 ≤ length fs
fewer id [] f h = cc
fewer id (g ∷ gs) f h = go (g.id == id) refl h (fewer id gs f)
  where
    kept : (b : Bool) → length (below id gs) + 1 ≤ length gs → length (if b then g ∷ below id gs else below id gs) + 1 ≤ length (g ∷ gs)
    kept true h = omega (arith, h)
    kept false h = omega (arith, h)

    go : (b : Bool) → (g.id == id) ≡ b → (if b then Some g else field_in gs id) ≡ Some f → (field_in gs id ≡ Some f → length (below id gs) + 1 ≤ length gs) → length (below id (g ∷ gs)) + 1 ≤ length (g ∷ gs)
    go true e h rest = let no : nat_lt g.id id ≡ false = grind (arith, nat_tests) in rw no (omega (arith, length-below id gs))
    go false e h rest = kept (nat_lt g.id id) (rest h)

-- The place of a field among those below it.

-- directly after a number, and first where that is the one in front
abbrev placed_from : ℕ → ℕ → Field → List Field → List Field
placed_from found after x fs = if after == found then x ∷ fs else put_after (λ other. other.id == after) x fs

-- what is found isn't what none of them is
found_other : (m found id : ℕ) (ns : List ℕ) → (found == m) ≡ false → Lacks m ns → (smaller_before found id ns == m) ≡ false
found_other m found id [] other lacks = other
found_other m found id (n ∷ ns) other lacks = go (n == id) (nat_lt n id) (found_other m n id ns) (found_other m found id ns other lacks.1)
  where
    go : (b c : Bool) → ((n == m) ≡ false → Lacks m ns → (smaller_before n id ns == m) ≡ false) → (smaller_before found id ns == m) ≡ false
        → ((if b then found else if c then smaller_before n id ns else smaller_before found id ns) == m) ≡ false
    go true c near far = other
    go false true near far = near lacks.0 lacks.1
    go false false near far = far

flip : (a b : ℕ) → (a == b) ≡ (b == a)
flip a b = go (a == b) (b == a) refl refl
  where
    go : (x y : Bool) → (a == b) ≡ x → (b == a) ≡ y → x ≡ y
    go true true p q = refl
    go false false p q = refl
    go true false p q = absurd (grind (arith, nat_tests))
    go false true p q = absurd (grind (arith, nat_tests))

module _ (id : ℕ) (f : Field) where
  abbrev IsPlaced : ℕ → List Field → Type 0
  IsPlaced found fs = field_in fs id ≡ Some f → AreApart (numbers fs) → Lacks found (numbers fs)
      → placed_from found (smaller_before found id (numbers fs)) f (below id fs) ≡ below (id + 1) fs

  placed_at : (found : ℕ) (fs : List Field) → IsPlaced found fs
  placed_at found [] h apart lacks = cc
  placed_at found (g ∷ gs) h apart lacks = go (g.id == id) (nat_lt g.id id) refl refl h (placed_at g.id gs) (placed_at found gs)
    where
      go : (b c : Bool) → (g.id == id) ≡ b → nat_lt g.id id ≡ c → (if b then Some g else field_in gs id) ≡ Some f → IsPlaced g.id gs → IsPlaced found gs
          → placed_from found (if b then found else if c then smaller_before g.id id (numbers gs) else smaller_before found id (numbers gs)) f (if c then g ∷ below id gs else below id gs)
          ≡ below (id + 1) (g ∷ gs)
      go true true e l h near far = absurd (grind (arith, nat_tests))
      go true false e l h near far =
          let here : g ≡ f = cc in
          let same : g.id ≡ id = grind (arith, nat_tests) in
          let in_it : nat_lt g.id (id + 1) ≡ true = grind (arith, nat_tests) in
          let rest = below_lacking id gs (subst (λ (n : ℕ). Lacks n (numbers gs)) same apart.0) in
          rw (itself found, in_it, rest) (ap (λ (x : Field). x ∷ below id gs) (sym here))
      go false true e l h near far =
          let in_it : nat_lt g.id (id + 1) ≡ true = grind (arith, nat_tests) in
          let other : (smaller_before g.id id (numbers gs) == found) ≡ false = found_other found g.id id (numbers gs) lacks.0 lacks.1 in
          let following = near h apart.1 apart.0 in
          rw (other, in_it, flip g.id (smaller_before g.id id (numbers gs))) (set (smaller_before g.id id (numbers gs) == g.id) following)
        where
          set : (b : Bool) → (if b then f ∷ below id gs else put_after (λ other. other.id == smaller_before g.id id (numbers gs)) f (below id gs)) ≡ below (id + 1) gs
              → (if b then g ∷ f ∷ below id gs else g ∷ put_after (λ other. other.id == smaller_before g.id id (numbers gs)) f (below id gs)) ≡ g ∷ below (id + 1) gs
          set true same = ap (λ (l : List Field). g ∷ l) same
          set false same = ap (λ (l : List Field). g ∷ l) same
      go false false e l h near far =
          let out : nat_lt g.id (id + 1) ≡ false = grind (arith, nat_tests) in
          rw out (far h apart.1 lacks.1)

  -- the field after which it goes is there
  abbrev HasItsPlace : ℕ → List Field → Type 0
  HasItsPlace found fs = field_in fs id ≡ Some f
      → ((smaller_before found id (numbers fs) == found) || is_some (field_in (below id fs) (smaller_before found id (numbers fs)))) ≡ true

  place_there : (found : ℕ) (fs : List Field) → HasItsPlace found fs
  place_there found [] h = cc
  place_there found (g ∷ gs) h = go (g.id == id) (nat_lt g.id id) refl refl h (place_there g.id gs) (place_there found gs)
    where
      go : (b c : Bool) → (g.id == id) ≡ b → nat_lt g.id id ≡ c → (if b then Some g else field_in gs id) ≡ Some f → HasItsPlace g.id gs → HasItsPlace found gs
          → (((if b then found else if c then smaller_before g.id id (numbers gs) else smaller_before found id (numbers gs)) == found)
          || is_some (field_in (if c then g ∷ below id gs else below id gs) (if b then found else if c then smaller_before g.id id (numbers gs) else smaller_before found id (numbers gs)))) ≡ true
      go true c e l h near far = rw (itself found) refl
      go false true e l h near far = rw (flip g.id (smaller_before g.id id (numbers gs))) (set (smaller_before g.id id (numbers gs) == found) (smaller_before g.id id (numbers gs) == g.id) (near h))
        where
          set : (x b : Bool) → (b || is_some (field_in (below id gs) (smaller_before g.id id (numbers gs)))) ≡ true
              → (x || is_some (if b then Some g else field_in (below id gs) (smaller_before g.id id (numbers gs)))) ≡ true
          set true b there = refl
          set false true there = refl
          set false false there = there
      go false false e l h near far = far h

-- Runs of fields.

ids_run : (os : List Op) (fs : List Field) (ss : List Session) (next number : ℕ) → next ≤ number → number ≤ last_number + 1
    → Reached os (contents_with fs ss next) → Reached (os ++ ids_to next number) (contents_with fs ss number)
ids_run os fs ss next number low high r = go (next == number) refl
  where
    go : (b : Bool) → (next == number) ≡ b → Reached (os ++ (if b then [] else op.Ids number ∷ [])) (contents_with fs ss number)
    go true e =
        let same : next ≡ number = grind (arith, nat_tests) in
        subst (λ (qs : List Op). Reached qs (contents_with fs ss number)) (sym (append-nil os)) (subst (λ (n : ℕ). Reached os (contents_with fs ss n)) same r)
    go false e =
        let p : nat_lt number next ≡ false = grind (arith, nat_tests) in
        let q : nat_lt (last_number + 1) number ≡ false = grind (arith, nat_tests) in
        let none : (nat_lt number next || nat_lt (last_number + 1) number) ≡ false = rw (p, q) refl in
        step os (contents_with fs ss next) (op.Ids number) (none, tt) r

module _ (sheet : Contents) (w : IsWorksheet sheet) where
  lacks_zero : (fs : List Field) → AllByRecursion IsField fs → Lacks 0 (numbers fs)
  lacks_zero [] all = tt
  lacks_zero (g ∷ gs) all = let some : 1 ≤ g.id = all.0.numbered in (grind (arith, nat_tests), lacks_zero gs all.1)

  abbrev so_far : ℕ → ℕ → Contents
  so_far number next = contents_with (below number sheet.fields) sheet.sessions next

  module _ (f : Field) (there : field_in sheet.fields f.id ≡ Some f) (small : f.id ≤ last_number) where
    abbrev made : Option Answer → Option Reason → Field
    made answer lost = record { id = f.id; session = f.session; input = f.input; answer = answer; lost = lost }

    abbrev place : ℕ
    place = smaller_before 0 f.id (numbers sheet.fields)

    is_field : IsField f
    is_field = found_in IsField sheet.fields f.id f w.fields there

    has_place_so_far : ((place == 0) || is_some (field_in (below f.id sheet.fields) place)) ≡ true
    has_place_so_far = place_there f.id f 0 sheet.fields there

    all_placed : placed_field place f (below f.id sheet.fields) ≡ below (f.id + 1) sheet.fields
    all_placed = placed_at f.id f 0 sheet.fields there w.numbers.apart (lacks_zero sheet.fields w.fields)

    new_is_allowed : NoneApplies (refusals (so_far f.id f.id) (op.New place f.session f.input))
    new_is_allowed =
        let belongs : has_session sheet f.session ≡ true = found_in (λ field. has_session sheet field.session ≡ true) sheet.fields f.id f w.belongs there in
        let session : not (has_session (so_far f.id f.id) f.session) ≡ false = rw belongs refl in
        let placed : not ((place == 0) || is_some (field_in (below f.id sheet.fields) place)) ≡ false = rw has_place_so_far refl in
        let input : not (is_input f.input) ≡ false = rw is_field.input refl in
        let less : length (below f.id sheet.fields) < most_fields = omega (arith, fewer f.id sheet.fields f there, w.few_fields) in
        let room : nat_le most_fields (length (below f.id sheet.fields)) ≡ false = grind (arith, nat_tests) in
        let ids : nat_lt last_number f.id ≡ false = grind (arith, nat_tests) in
        (session, (placed, (input, (room, (ids, tt)))))

    new_run : (os : List Op) → Reached os (so_far f.id f.id) → Reached (os ++ (op.New place f.session f.input ∷ outcome_ops f.id f.answer f.lost)) (so_far (f.id + 1) (f.id + 1))
    new_run os r =
        let o = op.New place f.session f.input in
        let one : Reached (os ++ o ∷ []) (contents_with (placed_field place (made None None) (below f.id sheet.fields)) sheet.sessions (f.id + 1)) = step os (so_far f.id f.id) o new_is_allowed r in
        go f.answer f.lost refl refl one
      where
        done : (answer : Option Answer) (lost : Option Reason) → f.answer ≡ answer → f.lost ≡ lost → placed_field place (made answer lost) (below f.id sheet.fields) ≡ below (f.id + 1) sheet.fields
        done answer lost e u =
            ap (λ (a : Option Answer). placed_field place (made a lost) (below f.id sheet.fields)) (sym e)
            ∙ ap (λ (l : Option Reason). placed_field place (made f.answer l) (below f.id sheet.fields)) (sym u) ∙ all_placed

        -- the field was put at its place, and an op more gives it what it has
        outcome_run : (answer : Option Answer) (lost : Option Reason) (a : Op) → f.answer ≡ answer → f.lost ≡ lost
            → (let placed = placed_field place (made None None) (below f.id sheet.fields) in edited (contents_with placed sheet.sessions (f.id + 1)) a ≡ contents_with (map (at_field f.id (with_outcome answer lost)) placed) sheet.sessions (f.id + 1))
            → NoneApplies (refusals (contents_with (placed_field place (made None None) (below f.id sheet.fields)) sheet.sessions (f.id + 1)) a)
            → Reached (os ++ op.New place f.session f.input ∷ []) (contents_with (placed_field place (made None None) (below f.id sheet.fields)) sheet.sessions (f.id + 1))
            → Reached (os ++ (op.New place f.session f.input ∷ a ∷ [])) (so_far (f.id + 1) (f.id + 1))
        outcome_run answer lost a e u does none one =
            let o = op.New place f.session f.input in
            let placed = placed_field place (made None None) (below f.id sheet.fields) in
            let two = step (os ++ o ∷ []) (contents_with placed sheet.sessions (f.id + 1)) a none one in
            let same = answered_placed place (with_outcome answer lost) (made None None) (below f.id sheet.fields) (lacks_below f.id sheet.fields) ∙ done answer lost e u in
            let all = does ∙ ap (λ (fs : List Field). contents_with fs sheet.sessions (f.id + 1)) same in
            joined os o (a ∷ []) (so_far (f.id + 1) (f.id + 1)) (subst (λ (s : Contents). Reached ((os ++ o ∷ []) ++ a ∷ []) s) all two)

        here : not (is_some (field_in (placed_field place (made None None) (below f.id sheet.fields)) f.id)) ≡ false
        here = rw (there_placed place (made None None) (below f.id sheet.fields) has_place_so_far) refl

        go : (answer : Option Answer) (lost : Option Reason) → f.answer ≡ answer → f.lost ≡ lost
            → Reached (os ++ op.New place f.session f.input ∷ []) (contents_with (placed_field place (made None None) (below f.id sheet.fields)) sheet.sessions (f.id + 1))
            → Reached (os ++ (op.New place f.session f.input ∷ outcome_ops f.id answer lost)) (so_far (f.id + 1) (f.id + 1))
        go None None e u one = subst (λ (fs : List Field). Reached (os ++ op.New place f.session f.input ∷ []) (contents_with fs sheet.sessions (f.id + 1))) (done None None e u) one
        go None (Some reason) e u one = outcome_run None (Some reason) (op.Lost f.id reason) e u refl (here, tt) one
        go (Some answer) lost e u one =
            let short : length answer.prompt ≤ longest_kept_prompt = subst HasShortPrompt e is_field.prompt in
            let prompt : nat_lt longest_kept_prompt (length answer.prompt) ≡ false = grind (arith, nat_tests) in
            let alone : f.lost ≡ None = subst (λ (a : Option Answer). HasOneOutcome a f.lost) e is_field.outcome in
            outcome_run (Some answer) None (op.Answer f.id answer.prompt answer.output) e alone refl (here, (prompt, tt)) one

  abbrev GoesOn : ℕ → ℕ → Type 0
  GoesOn count number = (next : ℕ) (os : List Op) → number + count ≡ sheet.next → next ≤ number → Reached os (so_far number next)
      → Reached (os ++ fields_ops sheet.fields count number next) sheet

  fields_run : (count number : ℕ) → GoesOn count number
  fields_run zero number next os last low r =
      let is : number ≡ sheet.next = omega (arith, last) in
      let done = ids_run os (below number sheet.fields) sheet.sessions next number low (omega (arith, is, w.to_last)) r in
      let all : below number sheet.fields ≡ sheet.fields = ap (λ (n : ℕ). below n sheet.fields) is ∙ below_all sheet.next sheet.fields w.numbers.below in
      subst (λ (fs : List Field). Reached (os ++ ids_to next number) (contents_with fs sheet.sessions sheet.next)) all
      (subst (λ (n : ℕ). Reached (os ++ ids_to next number) (contents_with (below number sheet.fields) sheet.sessions n)) is done)
  fields_run (suc count) number next os last low r = go (field_in sheet.fields number) refl (fields_run count (number + 1))
    where
      go : (found : Option Field) → field_in sheet.fields number ≡ found → GoesOn count (number + 1)
          → Reached (os ++ found_ops sheet.fields next found (fields_ops sheet.fields count (number + 1) (number + 1)) (fields_ops sheet.fields count (number + 1) next)) sheet
      go None e on =
          let same = below_lacking number sheet.fields (lacks_none number sheet.fields e) in
          on next os (omega (arith, last)) (omega (arith, low))
          (subst (λ (fs : List Field). Reached os (contents_with fs sheet.sessions next)) (sym same) r)
      go (Some f) e on =
          let is : f.id ≡ number = field_in-id sheet.fields number f e in
          let there : field_in sheet.fields f.id ≡ Some f = ap (λ (n : ℕ). field_in sheet.fields n) is ∙ e in
          let here : Reached os (so_far f.id next) = subst (λ (n : ℕ). Reached os (so_far n next)) (sym is) r in
          let named = ids_run os (below f.id sheet.fields) sheet.sessions next f.id (omega (arith, is, low)) (omega (arith, is, last, w.to_last)) here in
          let made_it = new_run f there (omega (arith, is, last, w.to_last)) (os ++ ids_to next f.id) named in
          let one : Reached (os ++ field_ops sheet.fields next f) (so_far (f.id + 1) (f.id + 1)) =
          subst (λ (qs : List Op). Reached qs (so_far (f.id + 1) (f.id + 1))) (append_assoc os (ids_to next f.id) (op.New (smaller_before 0 f.id (numbers sheet.fields)) f.session f.input ∷ outcome_ops f.id f.answer f.lost)) made_it in
          let following : Reached ((os ++ field_ops sheet.fields next f) ++ fields_ops sheet.fields count (number + 1) (number + 1)) sheet =
          on (number + 1) (os ++ field_ops sheet.fields next f) (omega (arith, last)) (omega arith)
          (subst (λ (n : ℕ). Reached (os ++ field_ops sheet.fields next f) (so_far (n + 1) (n + 1))) is one) in
          subst (λ (qs : List Op). Reached qs sheet) (append_assoc os (field_ops sheet.fields next f) (fields_ops sheet.fields count (number + 1) (number + 1))) following

  whole : Reached (rewrite_of sheet) sheet
  whole =
      let sessions : Reached (map session_op sheet.sessions) (contents_with [] sheet.sessions 1) =
      sessions_run [] sheet.sessions [] w.names w.sessions w.few_sessions (record { allowed = tt; is = refl }) in
      let none : below 1 sheet.fields ≡ [] = below_one sheet.fields w.fields in
      fields_run (sheet.next - 1) 1 1 (map session_op sheet.sessions) (omega (arith, w.from_one)) (omega arith)
      (subst (λ (fs : List Field). Reached (map session_op sheet.sessions) (contents_with fs sheet.sessions 1)) (sym none) sessions)

pub rewrite_makes_the_same : (sheet : Contents) → IsWorksheet sheet → Allowed (rewrite_of sheet) × (sheet_of (rewrite_of sheet) ≡ sheet)
rewrite_makes_the_same sheet w = let r = whole sheet w in (r.allowed, r.is)
