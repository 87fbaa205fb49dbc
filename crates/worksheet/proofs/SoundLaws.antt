-- An op that is allowed keeps the numbers apart, and below the next one.
use Rattle.std.proofs.Common.{◌≡◌, ℕ, ◌+◌, ◌<◌, ◌≤◌, List, [], ◌∷◌, map, refl, sym, subst, arith, Bool, true, false, Option, Some, None}
use Rattle.std.specs.Prelude.{◌==◌, ◌||◌, nat_lt, not, if◌then◌else◌}
use Rattle.std.proofs.lemmas.Bool.Decides.{nat_tests}
use Rattle.worksheet.specs.declared.op.Op.{Op}
use Rattle.worksheet.specs.declared.op.Op.TheVariants as op
use Rattle.worksheet.specs.declared.field.Field.{Field}
use Rattle.worksheet.specs.Contents.{Contents}
use Rattle.worksheet.specs.Ops.{put_after}
use Rattle.worksheet.specs.Checks.{numbers, field_in, first_refusal, refusals}
use Rattle.worksheet.specs.Edits.{Lacks, AreApart, AllBelow, HasNumbersApart, at_field, with_input, with_outcome, fields_without, placed_field, moved, edited}
use Rattle.worksheet.proofs.Finds.{field_in-id, none_applies}
use Rattle.worksheet.specs.Limits.{last_number}

-- what is below a number isn't it
pub Lacks-AllBelow : (n : ℕ) (ns : List ℕ) → AllBelow n ns → Lacks n ns
Lacks-AllBelow n [] b = tt
Lacks-AllBelow n (m ∷ ns) b = let less : m < n = b.0 in (grind (arith, nat_tests), Lacks-AllBelow n ns b.1)

pub AllBelow-more : (n : ℕ) (ns : List ℕ) → AllBelow n ns → AllBelow (n + 1) ns
AllBelow-more n [] b = tt
AllBelow-more n (m ∷ ns) b = (omega (arith, b.0), AllBelow-more n ns b.1)

-- Taking out.

Lacks-without : (n id : ℕ) (fs : List Field) → Lacks n (numbers fs) → Lacks n (numbers (fields_without id fs))
Lacks-without n id [] a = tt
Lacks-without n id (f ∷ fs) a = go (f.id == id) (Lacks-without n id fs a.1)
  where
    go : (b : Bool) → Lacks n (numbers (fields_without id fs)) → Lacks n (numbers (if not b then f ∷ fields_without id fs else fields_without id fs))
    go true rest = rest
    go false rest = (a.0, rest)

pub Lacks-itself : (id : ℕ) (fs : List Field) → Lacks id (numbers (fields_without id fs))
Lacks-itself id [] = tt
Lacks-itself id (f ∷ fs) = go (f.id == id) refl (Lacks-itself id fs)
  where
    go : (b : Bool) → (f.id == id) ≡ b → Lacks id (numbers (fields_without id fs)) → Lacks id (numbers (if not b then f ∷ fields_without id fs else fields_without id fs))
    go true e rest = rest
    go false e rest = (e, rest)

pub AreApart-without : (id : ℕ) (fs : List Field) → AreApart (numbers fs) → AreApart (numbers (fields_without id fs))
AreApart-without id [] a = tt
AreApart-without id (f ∷ fs) a = go (f.id == id) (AreApart-without id fs a.1)
  where
    go : (b : Bool) → AreApart (numbers (fields_without id fs)) → AreApart (numbers (if not b then f ∷ fields_without id fs else fields_without id fs))
    go true rest = rest
    go false rest = (Lacks-without f.id id fs a.0, rest)

AllBelow-without : (n id : ℕ) (fs : List Field) → AllBelow n (numbers fs) → AllBelow n (numbers (fields_without id fs))
AllBelow-without n id [] a = tt
AllBelow-without n id (f ∷ fs) a = go (f.id == id) (AllBelow-without n id fs a.1)
  where
    go : (b : Bool) → AllBelow n (numbers (fields_without id fs)) → AllBelow n (numbers (if not b then f ∷ fields_without id fs else fields_without id fs))
    go true rest = rest
    go false rest = (a.0, rest)

-- Putting in.

Lacks-put_after : (n : ℕ) (test : Field → Bool) (x : Field) (fs : List Field) → (x.id == n) ≡ false → Lacks n (numbers fs) → Lacks n (numbers (put_after test x fs))
Lacks-put_after n test x [] o a = tt
Lacks-put_after n test x (f ∷ fs) o a = go (test f) (Lacks-put_after n test x fs o a.1)
  where
    go : (b : Bool) → Lacks n (numbers (put_after test x fs)) → Lacks n (numbers (if b then f ∷ x ∷ fs else f ∷ put_after test x fs))
    go true rest = (a.0, (o, a.1))
    go false rest = (a.0, rest)

AreApart-put_after : (test : Field → Bool) (x : Field) (fs : List Field) → AreApart (numbers fs) → Lacks x.id (numbers fs) → AreApart (numbers (put_after test x fs))
AreApart-put_after test x [] a l = tt
AreApart-put_after test x (f ∷ fs) a l = go (test f) (AreApart-put_after test x fs a.1 l.1)
  where
    there : (f.id == x.id) ≡ false → (x.id == f.id) ≡ false
    there h = grind (arith, nat_tests)

    go : (b : Bool) → AreApart (numbers (put_after test x fs)) → AreApart (numbers (if b then f ∷ x ∷ fs else f ∷ put_after test x fs))
    go true rest = ((there l.0, a.0), (l.1, a.1))
    go false rest = (Lacks-put_after f.id test x fs (there l.0) a.0, rest)

AllBelow-put_after : (n : ℕ) (test : Field → Bool) (x : Field) (fs : List Field) → AllBelow n (numbers fs) → x.id < n → AllBelow n (numbers (put_after test x fs))
AllBelow-put_after n test x [] a l = tt
AllBelow-put_after n test x (f ∷ fs) a l = go (test f) (AllBelow-put_after n test x fs a.1 l)
  where
    go : (b : Bool) → AllBelow n (numbers (put_after test x fs)) → AllBelow n (numbers (if b then f ∷ x ∷ fs else f ∷ put_after test x fs))
    go true rest = (a.0, (l, a.1))
    go false rest = (a.0, rest)

AreApart-placed : (after : ℕ) (x : Field) (fs : List Field) → AreApart (numbers fs) → Lacks x.id (numbers fs) → AreApart (numbers (placed_field after x fs))
AreApart-placed after x fs a l = go (after == 0)
  where
    go : (b : Bool) → AreApart (numbers (if b then x ∷ fs else put_after (λ other. other.id == after) x fs))
    go true = (l, a)
    go false = AreApart-put_after (λ other. other.id == after) x fs a l

AllBelow-placed : (n after : ℕ) (x : Field) (fs : List Field) → AllBelow n (numbers fs) → x.id < n → AllBelow n (numbers (placed_field after x fs))
AllBelow-placed n after x fs a l = go (after == 0)
  where
    go : (b : Bool) → AllBelow n (numbers (if b then x ∷ fs else put_after (λ other. other.id == after) x fs))
    go true = (l, a)
    go false = AllBelow-put_after n (λ other. other.id == after) x fs a l

-- Changing.

pub numbers-at_field : (id : ℕ) (change : Field → Field) → ((f : Field) → (change f).id ≡ f.id) → (fs : List Field) → numbers (map (at_field id change) fs) ≡ numbers fs
numbers-at_field id change keeps [] = refl
numbers-at_field id change keeps (f ∷ fs) = go (f.id == id) (numbers-at_field id change keeps fs)
  where
    go : (b : Bool) → numbers (map (at_field id change) fs) ≡ numbers fs → (if b then change f else f).id ∷ numbers (map (at_field id change) fs) ≡ f.id ∷ numbers fs
    go true rest = rw (keeps f, rest) refl
    go false rest = rw rest refl

changed_sound : (sheet : Contents) (id : ℕ) (change : Field → Field) → ((f : Field) → (change f).id ≡ f.id) → HasNumbersApart sheet → HasNumbersApart (record sheet { fields = map (at_field id change) sheet.fields })
changed_sound sheet id change keeps s =
    let same = numbers-at_field id change keeps sheet.fields in
    record {
      apart = subst (λ (ns : List ℕ). AreApart ns) (sym same) s.apart;
      below = subst (λ (ns : List ℕ). AllBelow sheet.next ns) (sym same) s.below;
    }

below-found : (n : ℕ) (fs : List Field) (id : ℕ) (f : Field) → AllBelow n (numbers fs) → field_in fs id ≡ Some f → f.id < n
below-found n [] id f a h = cc
below-found n (g ∷ fs) id f a h = go (g.id == id) h (below-found n fs id f a.1)
  where
    go : (b : Bool) → (if b then Some g else field_in fs id) ≡ Some f → (field_in fs id ≡ Some f → f.id < n) → f.id < n
    go true h rest = let is : g ≡ f = cc in rw (← is) a.0
    go false h rest = rest h

moved_sound : (sheet : Contents) (id after : ℕ) (found : Option Field) → field_in sheet.fields id ≡ found → HasNumbersApart sheet → HasNumbersApart (record sheet { fields = moved id after sheet.fields found })
moved_sound sheet id after None is s = s
moved_sound sheet id after (Some f) is s = record {
  apart = AreApart-placed after f (fields_without id sheet.fields) (AreApart-without id sheet.fields s.apart)
      (subst (λ n. Lacks n (numbers (fields_without id sheet.fields))) (sym (field_in-id sheet.fields id f is)) (Lacks-itself id sheet.fields));
  below = AllBelow-placed sheet.next after f (fields_without id sheet.fields) (AllBelow-without sheet.next id sheet.fields s.below) (below-found sheet.next sheet.fields id f s.below is);
}

-- the next number, where it rises
pub no_less : (next number : ℕ) (more : Bool) → (nat_lt number next || more) ≡ false → next ≤ number
no_less next number more h = go (nat_lt number next) refl h
  where
    go : (b : Bool) → nat_lt number next ≡ b → (b || more) ≡ false → next ≤ number
    go true e h = cc
    go false e h = grind (arith, nat_tests)

AllBelow-rising : (n m : ℕ) (ns : List ℕ) → n ≤ m → AllBelow n ns → AllBelow m ns
AllBelow-rising n m [] le b = tt
AllBelow-rising n m (k ∷ ns) le b = (omega (arith, le, b.0), AllBelow-rising n m ns le b.1)

pub IsSound-edited : (sheet : Contents) (o : Op) → first_refusal sheet o ≡ None → HasNumbersApart sheet → HasNumbersApart (edited sheet o)
IsSound-edited sheet (op.Session name tab words) allowed s = record { apart = s.apart; below = s.below }
IsSound-edited sheet (op.New after session input) allowed s = record {
  apart = AreApart-placed after (record { id = sheet.next; session = session; input = input; answer = None; lost = None }) sheet.fields s.apart (Lacks-AllBelow sheet.next (numbers sheet.fields) s.below);
  below = AllBelow-placed (sheet.next + 1) after (record { id = sheet.next; session = session; input = input; answer = None; lost = None }) sheet.fields (AllBelow-more sheet.next (numbers sheet.fields) s.below) (omega arith);
}
IsSound-edited sheet (op.Set id input) allowed s = changed_sound sheet id (with_input input) (λ f. refl) s
IsSound-edited sheet (op.Remove id) allowed s = record { apart = AreApart-without id sheet.fields s.apart; below = AllBelow-without sheet.next id sheet.fields s.below }
IsSound-edited sheet (op.Move id after) allowed s = moved_sound sheet id after (field_in sheet.fields id) refl s
IsSound-edited sheet (op.Clear id) allowed s = changed_sound sheet id (with_outcome None None) (λ f. refl) s
IsSound-edited sheet (op.Answer id prompt output) allowed s = changed_sound sheet id (with_outcome (Some (record { prompt = prompt; output = output })) None) (λ f. refl) s
IsSound-edited sheet (op.Lost id reason) allowed s = changed_sound sheet id (with_outcome None (Some reason)) (λ f. refl) s
IsSound-edited sheet (op.Ids number) allowed s =
    let passed : (nat_lt number sheet.next || nat_lt (last_number + 1) number) ≡ false = (none_applies (refusals sheet (op.Ids number)) allowed).0 in
    record { apart = s.apart; below = AllBelow-rising sheet.next number (numbers sheet.fields) (no_less sheet.next number (nat_lt (last_number + 1) number) passed) s.below }
