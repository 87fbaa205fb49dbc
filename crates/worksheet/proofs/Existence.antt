-- The order lists the numbers of what exists.
use Rattle.std.proofs.Common.{◌≡◌, ℕ, ◌+◌, List, [], ◌∷◌, ◌++◌, map, refl, ap, sym, ◌∙◌, subst, arith, Bool, true, false, Some, None, append_assoc, add-zero}
use Rattle.std.specs.Prelude.{◌==◌, ◌||◌, count_by, fold, not, is_some, if◌then◌else◌}
use Rattle.std.specs.List.{list_any}
use Rattle.std.proofs.lemmas.Bool.Decides.{nat_tests}
use Rattle.std.proofs.lemmas.List.{append-nil}
use Rattle.worksheet.specs.declared.op.Op.{Op}
use Rattle.worksheet.specs.declared.op.Op.TheVariants as op
use Rattle.worksheet.specs.Ops.{next_after, next_from, next_of, is_about, last_of, makes_or_ends, is_making, exists, field_of, put_after, placed, sheet_of}
use Rattle.worksheet.specs.inside.Words.{about, without, order_of}
use Rattle.worksheet.specs.Checks.{Allowed, AllowedFrom, field_in, first_refusal, refusals}
use Rattle.worksheet.specs.Laws.{HasNoIds, is_new}
use Rattle.worksheet.proofs.Finds.{none_applies, true_from_not}
use Rattle.worksheet.proofs.OneMore.{order_from-push, about_from-push, last_of-push}

-- how many New there are in these ops, above a count so far
abbrev news_from : ℕ → List Op → ℕ
news_from count os = fold (λ n o. n + (if is_new o then 1 else 0)) count os

-- where no Ids is among them, the next number is the first one with the count of New
next_from-news : (first count next : ℕ) (os : List Op) → next ≡ count + first → HasNoIds os → next_from next os ≡ news_from count os + first
next_from-news first count next [] is none = is
next_from-news first count next (op.Session name tab words ∷ os) is none = rw add-zero (next_from-news first count next os is none)
next_from-news first count next (op.New after session input ∷ os) is none = next_from-news first (count + 1) (next + 1) os (omega (arith, is)) none
next_from-news first count next (op.Set id input ∷ os) is none = rw add-zero (next_from-news first count next os is none)
next_from-news first count next (op.Remove id ∷ os) is none = rw add-zero (next_from-news first count next os is none)
next_from-news first count next (op.Move id after ∷ os) is none = rw add-zero (next_from-news first count next os is none)
next_from-news first count next (op.Clear id ∷ os) is none = rw add-zero (next_from-news first count next os is none)
next_from-news first count next (op.Answer id prompt output ∷ os) is none = rw add-zero (next_from-news first count next os is none)
next_from-news first count next (op.Lost id reason ∷ os) is none = rw add-zero (next_from-news first count next os is none)
next_from-news first count next (op.Ids number ∷ os) is none = absurd none

pub next_of-count : (os : List Op) → HasNoIds os → next_of os ≡ count_by is_new os + 1
next_of-count os none = next_from-news 1 0 1 os (omega arith) none

next_from-append : (next : ℕ) (os more : List Op) → next_from next (os ++ more) ≡ next_from (next_from next os) more
next_from-append next [] more = refl
next_from-append next (o ∷ os) more = next_from-append (next_after next o) os more

pub next_of-ids : (before os : List Op) (number : ℕ) → HasNoIds os → next_of (before ++ op.Ids number ∷ os) ≡ count_by is_new os + number
next_of-ids before os number none = next_from-append 1 before (op.Ids number ∷ os) ∙ next_from-news number 0 number os (omega arith) none

-- whether a number is listed
abbrev pub lists : List ℕ → ℕ → Bool
lists ids id = list_any (λ other. other == id) ids

-- Edits of the order, by what they list.

lists-without : (out id : ℕ) (ids : List ℕ) → lists (without out ids) id ≡ (if out == id then false else lists ids id)
lists-without out id [] = either (out == id)
  where
    either : (b : Bool) → false ≡ (if b then false else false)
    either true = refl
    either false = refl
lists-without out id (n ∷ ids) = go (n == out) (n == id) (out == id) refl refl refl (lists-without out id ids)
  where
    go : (b c d : Bool) → (n == out) ≡ b → (n == id) ≡ c → (out == id) ≡ d → lists (without out ids) id ≡ (if out == id then false else lists ids id)
        → lists (if not b then n ∷ without out ids else without out ids) id ≡ (if d then false else (c || lists ids id))
    go true c true e f g rest = rest ∙ rw g refl
    go true true false e f g rest = absurd (grind (arith, nat_tests))
    go true false false e f g rest = rest ∙ rw g refl
    go false true true e f g rest = absurd (grind (arith, nat_tests))
    go false true false e f g rest = rw f refl
    go false false true e f g rest = rw f (rest ∙ rw g refl)
    go false false false e f g rest = rw f (rest ∙ rw g refl)

lists-put_after : (after x id : ℕ) (ids : List ℕ) → lists ids after ≡ true → lists (put_after (λ other. other == after) x ids) id ≡ ((x == id) || lists ids id)
lists-put_after after x id [] there = cc
lists-put_after after x id (n ∷ ids) there = go (n == after) there (lists-put_after after x id ids)
  where
    swap : (a b c : Bool) → (a || (b || c)) ≡ (b || (a || c))
    swap true true c = refl
    swap true false c = refl
    swap false true c = refl
    swap false false c = refl

    go : (b : Bool) → (b || lists ids after) ≡ true → (lists ids after ≡ true → lists (put_after (λ other. other == after) x ids) id ≡ ((x == id) || lists ids id))
        → lists (if b then n ∷ x ∷ ids else n ∷ put_after (λ other. other == after) x ids) id ≡ ((x == id) || ((n == id) || lists ids id))
    go true h rest = swap (n == id) (x == id) (lists ids id)
    go false h rest = ap (λ b. (n == id) || b) (rest h) ∙ swap (n == id) (x == id) (lists ids id)

lists-placed : (after x id : ℕ) (ids : List ℕ) → ((after == 0) || lists ids after) ≡ true → lists (placed after x ids) id ≡ ((x == id) || lists ids id)
lists-placed after x id ids place = go (after == 0) place (lists-put_after after x id ids)
  where
    go : (b : Bool) → (b || lists ids after) ≡ true → (lists ids after ≡ true → lists (put_after (λ other. other == after) x ids) id ≡ ((x == id) || lists ids id))
        → lists (if b then x ∷ ids else put_after (λ other. other == after) x ids) id ≡ ((x == id) || lists ids id)
    go true h following = refl
    go false h following = following h

-- a number that goes elsewhere is listed as before
lists-moved : (after out id : ℕ) (ids : List ℕ) → lists ids out ≡ true → ((after == 0) || lists ids after) ≡ true → (after == out) ≡ false
    → lists (placed after out (without out ids)) id ≡ lists ids id
lists-moved after out id ids there place other =
    lists-placed after out id (without out ids) (rw (lists-without out after ids, flip) place) ∙ rw (lists-without out id ids) (go (out == id) refl)
  where
    flip : (out == after) ≡ false
    flip = grind (arith, nat_tests)

    go : (b : Bool) → (out == id) ≡ b → (b || (if b then false else lists ids id)) ≡ lists ids id
    go true e = let same : out ≡ id = grind (arith, nat_tests) in sym (subst (λ n. lists ids n ≡ true) same there)
    go false e = refl

-- What one op more makes exist.

exists-push : (os : List Op) (o : Op) (id : ℕ)
    → exists (os ++ o ∷ []) id ≡ (if is_about id (next_of os) o then (if makes_or_ends o then is_making (Some o) else exists os id) else exists os id)
exists-push os o id = ap (λ (qs : List Op). is_making (last_of makes_or_ends qs)) (about_from-push id 1 os o) ∙ go (is_about id (next_of os) o)
  where
    last : (b : Bool) → is_making (if b then Some o else last_of makes_or_ends (about id os)) ≡ (if b then is_making (Some o) else exists os id)
    last true = refl
    last false = refl

    go : (b : Bool) → is_making (last_of makes_or_ends (about id os ++ (if b then o ∷ [] else []))) ≡ (if b then (if makes_or_ends o then is_making (Some o) else exists os id) else exists os id)
    go true = ap is_making (last_of-push makes_or_ends (about id os) o) ∙ last (makes_or_ends o)
    go false = ap (λ (qs : List Op). is_making (last_of makes_or_ends qs)) (append-nil (about id os))

either : (b c : Bool) → (if b then c else c) ≡ c
either true c = refl
either false c = refl

-- What the order of these ops lists exists.
abbrev ListsWhatExists : List Op → Type 0
ListsWhatExists os = (id : ℕ) → lists (order_of os) id ≡ exists os id

has_field-lists : (os : List Op) (ids : List ℕ) (id : ℕ) → is_some (field_in (map (field_of os) ids) id) ≡ lists ids id
has_field-lists os [] id = refl
has_field-lists os (n ∷ ids) id = go (n == id) (has_field-lists os ids id)
  where
    go : (b : Bool) → is_some (field_in (map (field_of os) ids) id) ≡ lists ids id → is_some (if b then Some (field_of os n) else field_in (map (field_of os) ids) id) ≡ (b || lists ids id)
    go true rest = refl
    go false rest = rest

-- an op that neither makes, ends nor moves a field
lists-same : (os : List Op) (o : Op) → order_of (os ++ o ∷ []) ≡ order_of os → ((id : ℕ) → exists (os ++ o ∷ []) id ≡ exists os id) → ListsWhatExists os → ListsWhatExists (os ++ o ∷ [])
lists-same os o order same known id = ap (λ (ids : List ℕ). lists ids id) order ∙ known id ∙ sym (same id)

lists-after : (os : List Op) (o : Op) → first_refusal (sheet_of os) o ≡ None → ListsWhatExists os → ListsWhatExists (os ++ o ∷ [])
lists-after os (op.Session name tab words) allowed known id =
    lists-same os (op.Session name tab words) (order_from-push 1 [] os (op.Session name tab words)) (exists-push os (op.Session name tab words)) known id
lists-after os (op.New after session input) allowed known id =
    let o = op.New after session input in
    let there = true_from_not ((after == 0) || is_some (field_in (sheet_of os).fields after)) (none_applies (refusals (sheet_of os) o) allowed).1.0 in
    let place : ((after == 0) || lists (order_of os) after) ≡ true = rw (has_field-lists os (order_of os) after) at there in
    ap (λ (ids : List ℕ). lists ids id) (order_from-push 1 [] os o) ∙ lists-placed after (next_of os) id (order_of os) place
    ∙ go (next_of os == id) (known id) ∙ sym (exists-push os o id)
  where
    go : (b : Bool) → lists (order_of os) id ≡ exists os id → (b || lists (order_of os) id) ≡ (if b then true else exists os id)
    go true same = refl
    go false same = same
lists-after os (op.Set other input) allowed known id =
    let o = op.Set other input in
    lists-same os o (order_from-push 1 [] os o) (λ n. exists-push os o n ∙ either (other == n) (exists os n)) known id
lists-after os (op.Remove other) allowed known id =
    let o = op.Remove other in
    ap (λ (ids : List ℕ). lists ids id) (order_from-push 1 [] os o) ∙ lists-without other id (order_of os)
    ∙ ap (λ (b : Bool). if other == id then false else b) (known id) ∙ sym (exists-push os o id)
lists-after os (op.Move other after) allowed known id =
    let o = op.Move other after in
    let passed = none_applies (refusals (sheet_of os) o) allowed in
    let there = true_from_not (is_some (field_in (sheet_of os).fields other)) passed.0 in
    let place = true_from_not ((after == 0) || is_some (field_in (sheet_of os).fields after)) passed.1.0 in
    ap (λ (ids : List ℕ). lists ids id) (order_from-push 1 [] os o)
    ∙ lists-moved after other id (order_of os) (rw (has_field-lists os (order_of os) other) at there) (rw (has_field-lists os (order_of os) after) at place) (first_false (after == other) _ passed.1.1.0)
    ∙ known id ∙ sym (exists-push os o id ∙ either (other == id) (exists os id))
  where
    first_false : (b c : Bool) → (b || c) ≡ false → b ≡ false
    first_false true c h = cc
    first_false false c h = refl
lists-after os (op.Clear other) allowed known id =
    let o = op.Clear other in
    lists-same os o (order_from-push 1 [] os o) (λ n. exists-push os o n ∙ either (other == n) (exists os n)) known id
lists-after os (op.Answer other prompt output) allowed known id =
    let o = op.Answer other prompt output in
    lists-same os o (order_from-push 1 [] os o) (λ n. exists-push os o n ∙ either (other == n) (exists os n)) known id
lists-after os (op.Lost other reason) allowed known id =
    let o = op.Lost other reason in
    lists-same os o (order_from-push 1 [] os o) (λ n. exists-push os o n ∙ either (other == n) (exists os n)) known id
lists-after os (op.Ids number) allowed known id =
    lists-same os (op.Ids number) (order_from-push 1 [] os (op.Ids number)) (exists-push os (op.Ids number)) known id

lists-all : (before os : List Op) → AllowedFrom before os → ListsWhatExists before → ListsWhatExists (before ++ os)
lists-all before [] allowed known = subst ListsWhatExists (sym (append-nil before)) known
lists-all before (o ∷ os) allowed known =
    let following = lists-all (before ++ o ∷ []) os allowed.1 (lists-after before o allowed.0 known) in
    subst ListsWhatExists (append_assoc before (o ∷ []) os) following

-- Looking a number up in the fields of an order.
field_in-order : (os : List Op) (ids : List ℕ) (id : ℕ) → field_in (map (field_of os) ids) id ≡ (if lists ids id then Some (field_of os id) else None)
field_in-order os [] id = refl
field_in-order os (n ∷ ids) id = go (n == id) refl (field_in-order os ids id)
  where
    go : (b : Bool) → (n == id) ≡ b → field_in (map (field_of os) ids) id ≡ (if lists ids id then Some (field_of os id) else None)
        → (if b then Some (field_of os n) else field_in (map (field_of os) ids) id) ≡ (if b || lists ids id then Some (field_of os id) else None)
    go true e rest = let same : n ≡ id = grind (arith, nat_tests) in ap (λ m. Some (field_of os m)) same
    go false e rest = rest

pub has_what_exists : (os : List Op) → Allowed os → (id : ℕ) → field_in (sheet_of os).fields id ≡ (if exists os id then Some (field_of os id) else None)
has_what_exists os allowed id =
    field_in-order os (order_of os) id
    ∙ ap (λ (b : Bool). if b then Some (field_of os id) else None) (lists-all [] os allowed (λ n. refl) id)

allowed-push : (before os : List Op) (o : Op) → AllowedFrom before os → first_refusal (sheet_of (before ++ os)) o ≡ None → AllowedFrom before (os ++ o ∷ [])
allowed-push before [] o allowed next = (subst (λ (qs : List Op). first_refusal (sheet_of qs) o ≡ None) (append-nil before) next, tt)
allowed-push before (p ∷ os) o allowed next =
    (allowed.0, allowed-push (before ++ p ∷ []) os o allowed.1 (subst (λ (qs : List Op). first_refusal (sheet_of qs) o ≡ None) (sym (append_assoc before (p ∷ []) os)) next))

pub allowed_goes_on : (os : List Op) (o : Op) → Allowed os → first_refusal (sheet_of os) o ≡ None → Allowed (os ++ o ∷ [])
allowed_goes_on os o allowed next = allowed-push [] os o allowed next
