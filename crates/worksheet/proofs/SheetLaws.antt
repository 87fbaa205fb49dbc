-- The worksheet of a list of ops, with one op more, is an edit of the worksheet of the list.
use Rattle.std.proofs.Common.{◌≡◌, ℕ, ◌<◌, List, [], ◌∷◌, ◌++◌, map, refl, ap, sym, ◌∙◌, arith, Bool, true, false, Option, Some, None}
use Rattle.std.specs.Prelude.{◌==◌, not, is_some, if◌then◌else◌}
use Rattle.std.proofs.lemmas.Bool.Decides.{nat_tests}
use Rattle.std.proofs.lemmas.List.{append-nil}
use Rattle.worksheet.specs.declared.op.Op.{Op}
use Rattle.worksheet.specs.declared.op.Op.TheVariants as op
use Rattle.worksheet.specs.declared.field.Field.{Field}
use Rattle.worksheet.specs.declared.field.Session.{Session}
use Rattle.worksheet.specs.Ops.{next_after, next_of, field_of, put_after, placed, sessions_of, sheet_of}
use Rattle.worksheet.specs.inside.Words.{without, order_of}
use Rattle.worksheet.specs.Checks.{numbers, field_in, first_refusal, refusals}
use Rattle.worksheet.specs.Edits.{AllBelow, HasNumbersApart, contents_with, at_field, with_input, with_outcome, fields_without, placed_field, moved, edited}
use Rattle.worksheet.proofs.Finds.{none_applies, true_from_not}
use Rattle.worksheet.proofs.OneMore.{next_from-push, order_from-push, sessions_of-push, field_of-push}

-- The fields of an order, and edits of the order.

map-put_after : (os : List Op) (after x : ℕ) (ids : List ℕ)
    → map (field_of os) (put_after (λ other. other == after) x ids) ≡ put_after (λ other. other.id == after) (field_of os x) (map (field_of os) ids)
map-put_after os after x [] = refl
map-put_after os after x (y ∷ ids) = go (y == after) (map-put_after os after x ids)
  where
    go : (b : Bool) → map (field_of os) (put_after (λ other. other == after) x ids) ≡ put_after (λ other. other.id == after) (field_of os x) (map (field_of os) ids)
        → map (field_of os) (if b then y ∷ x ∷ ids else y ∷ put_after (λ other. other == after) x ids)
        ≡ (if b then field_of os y ∷ field_of os x ∷ map (field_of os) ids else field_of os y ∷ put_after (λ other. other.id == after) (field_of os x) (map (field_of os) ids))
    go true rest = refl
    go false rest = ap (λ (fs : List Field). field_of os y ∷ fs) rest

map-placed : (os : List Op) (after x : ℕ) (ids : List ℕ) → map (field_of os) (placed after x ids) ≡ placed_field after (field_of os x) (map (field_of os) ids)
map-placed os after x ids = go (after == 0)
  where
    go : (b : Bool) → map (field_of os) (if b then x ∷ ids else put_after (λ other. other == after) x ids)
        ≡ (if b then field_of os x ∷ map (field_of os) ids else put_after (λ other. other.id == after) (field_of os x) (map (field_of os) ids))
    go true = refl
    go false = map-put_after os after x ids

map-without : (os : List Op) (id : ℕ) (ids : List ℕ) → map (field_of os) (without id ids) ≡ fields_without id (map (field_of os) ids)
map-without os id [] = refl
map-without os id (y ∷ ids) = go (y == id) (map-without os id ids)
  where
    go : (b : Bool) → map (field_of os) (without id ids) ≡ fields_without id (map (field_of os) ids)
        → map (field_of os) (if not b then y ∷ without id ids else without id ids)
        ≡ (if not b then field_of os y ∷ fields_without id (map (field_of os) ids) else fields_without id (map (field_of os) ids))
    go true rest = rest
    go false rest = ap (λ (fs : List Field). field_of os y ∷ fs) rest

-- what is found under a number is the field of that number
found : (os : List Op) (id : ℕ) (ids : List ℕ) → is_some (field_in (map (field_of os) ids) id) ≡ true → field_in (map (field_of os) ids) id ≡ Some (field_of os id)
found os id [] h = cc
found os id (y ∷ ids) h = go (y == id) refl h (found os id ids)
  where
    go : (b : Bool) → (y == id) ≡ b → is_some (if b then Some (field_of os y) else field_in (map (field_of os) ids) id) ≡ true
        → (is_some (field_in (map (field_of os) ids) id) ≡ true → field_in (map (field_of os) ids) id ≡ Some (field_of os id))
        → (if b then Some (field_of os y) else field_in (map (field_of os) ids) id) ≡ Some (field_of os id)
    go true e h rest = let same : y ≡ id = grind (arith, nat_tests) in ap (λ n. Some (field_of os n)) same
    go false e h rest = rest h

-- What one op more changes in the fields of an order.

-- nothing
unchanged : (os : List Op) (o : Op) → ((j : ℕ) → field_of (os ++ o ∷ []) j ≡ field_of os j) → (ids : List ℕ) → map (field_of (os ++ o ∷ [])) ids ≡ map (field_of os) ids
unchanged os o same [] = refl
unchanged os o same (j ∷ ids) = rw (same j) (ap (λ (fs : List Field). field_of os j ∷ fs) (unchanged os o same ids))

either : (b : Bool) (f : Field) → (if b then f else f) ≡ f
either true f = refl
either false f = refl

-- the field that it is about
changed_at : (os : List Op) (o : Op) (id : ℕ) (change : Field → Field) → ((j : ℕ) → field_of (os ++ o ∷ []) j ≡ (if id == j then change (field_of os j) else field_of os j)) → (ids : List ℕ)
    → map (field_of (os ++ o ∷ [])) ids ≡ map (at_field id change) (map (field_of os) ids)
changed_at os o id change same [] = refl
changed_at os o id change same (j ∷ ids) =
    let flip : (id == j) ≡ (j == id) = grind (arith, nat_tests) in
    rw (same j, flip) (ap (λ (fs : List Field). at_field id change (field_of os j) ∷ fs) (changed_at os o id change same ids))

-- a New makes the next field and changes none before it
below_next : (os : List Op) (after : ℕ) (session input : List ℕ) (ids : List ℕ) → AllBelow (next_of os) (numbers (map (field_of os) ids))
    → map (field_of (os ++ op.New after session input ∷ [])) ids ≡ map (field_of os) ids
below_next os after session input [] below = refl
below_next os after session input (j ∷ ids) below =
    let less : j < next_of os = below.0 in
    let other : (next_of os == j) ≡ false = grind (arith, nat_tests) in
    rw (field_of-push os (op.New after session input) j, other) (ap (λ (fs : List Field). field_of os j ∷ fs) (below_next os after session input ids below.1))

made : (os : List Op) (after : ℕ) (session input : List ℕ)
    → field_of (os ++ op.New after session input ∷ []) (next_of os) ≡ record { id = next_of os; session = session; input = input; answer = None; lost = None }
made os after session input =
    let itself : (next_of os == next_of os) ≡ true = grind (arith, nat_tests) in
    rw (field_of-push os (op.New after session input) (next_of os), itself) refl

-- The whole.

same_contents : (f g : List Field) (s t : List Session) (n m : ℕ) → f ≡ g → s ≡ t → n ≡ m → contents_with f s n ≡ contents_with g t m
same_contents f g s t n m p q r = rw (p, q, r) refl

-- the worksheet, by what becomes of its fields
sheet_of-fields : (os : List Op) (o : Op) (fs : List Field) (ss : List Session) (n : ℕ)
    → map (field_of (os ++ o ∷ [])) (order_of (os ++ o ∷ [])) ≡ fs → sessions_of os ++ sessions_of (o ∷ []) ≡ ss → next_after (next_of os) o ≡ n
    → sheet_of (os ++ o ∷ []) ≡ contents_with fs ss n
sheet_of-fields os o fs ss n p q r = same_contents _ _ _ _ _ _ p (sessions_of-push os o ∙ q) (next_from-push 1 os o ∙ r)

ordered : (os : List Op) (o : Op) (ids : List ℕ) (fs : List Field) → order_of (os ++ o ∷ []) ≡ ids → map (field_of (os ++ o ∷ [])) ids ≡ fs → map (field_of (os ++ o ∷ [])) (order_of (os ++ o ∷ [])) ≡ fs
ordered os o ids fs p q = ap (λ (ns : List ℕ). map (field_of (os ++ o ∷ [])) ns) p ∙ q

pub sheet_of-push : (os : List Op) (o : Op) → HasNumbersApart (sheet_of os) → first_refusal (sheet_of os) o ≡ None → sheet_of (os ++ o ∷ []) ≡ edited (sheet_of os) o
sheet_of-push os (op.Session name tab words) sound allowed = sheet_of-fields os (op.Session name tab words) _ _ _
    (ordered os (op.Session name tab words) _ _ (order_from-push 1 [] os (op.Session name tab words)) (unchanged os (op.Session name tab words) (field_of-push os (op.Session name tab words)) (order_of os)))
    refl refl
sheet_of-push os (op.New after session input) sound allowed =
    let o = op.New after session input in
    let below = below_next os after session input (order_of os) sound.below in
    sheet_of-fields os o _ _ _
    (ordered os o _ _ (order_from-push 1 [] os o)
    (map-placed (os ++ o ∷ []) after (next_of os) (order_of os)
    ∙ ap (λ (f : Field). placed_field after f (map (field_of (os ++ o ∷ [])) (order_of os))) (made os after session input)
    ∙ ap (λ (fs : List Field). placed_field after (record { id = next_of os; session = session; input = input; answer = None; lost = None }) fs) below))
    (append-nil (sessions_of os)) refl
sheet_of-push os (op.Set id input) sound allowed =
    let o = op.Set id input in
    sheet_of-fields os o _ _ _
    (ordered os o _ _ (order_from-push 1 [] os o) (changed_at os o id (with_input input) (field_of-push os o) (order_of os)))
    (append-nil (sessions_of os)) refl
sheet_of-push os (op.Remove id) sound allowed =
    let o = op.Remove id in
    sheet_of-fields os o _ _ _
    (ordered os o _ _ (order_from-push 1 [] os o)
    (unchanged os o (λ j. field_of-push os o j ∙ either (id == j) (field_of os j)) (without id (order_of os)) ∙ map-without os id (order_of os)))
    (append-nil (sessions_of os)) refl
sheet_of-push os (op.Move id after) sound allowed =
    let o = op.Move id after in
    let there = true_from_not (is_some (field_in (sheet_of os).fields id)) (none_applies (refusals (sheet_of os) o) allowed).0 in
    sheet_of-fields os o _ _ _
    (ordered os o _ _ (order_from-push 1 [] os o)
    (unchanged os o (λ j. field_of-push os o j ∙ either (id == j) (field_of os j)) (placed after id (without id (order_of os)))
    ∙ map-placed os after id (without id (order_of os))
    ∙ ap (λ (fs : List Field). placed_field after (field_of os id) fs) (map-without os id (order_of os))
    ∙ sym (ap (λ (f : Option Field). moved id after (sheet_of os).fields f) (found os id (order_of os) there))))
    (append-nil (sessions_of os)) refl
sheet_of-push os (op.Clear id) sound allowed =
    let o = op.Clear id in
    sheet_of-fields os o _ _ _
    (ordered os o _ _ (order_from-push 1 [] os o) (changed_at os o id (with_outcome None None) (field_of-push os o) (order_of os)))
    (append-nil (sessions_of os)) refl
sheet_of-push os (op.Answer id prompt output) sound allowed =
    let o = op.Answer id prompt output in
    sheet_of-fields os o _ _ _
    (ordered os o _ _ (order_from-push 1 [] os o) (changed_at os o id (with_outcome (Some (record { prompt = prompt; output = output })) None) (field_of-push os o) (order_of os)))
    (append-nil (sessions_of os)) refl
sheet_of-push os (op.Lost id reason) sound allowed =
    let o = op.Lost id reason in
    sheet_of-fields os o _ _ _
    (ordered os o _ _ (order_from-push 1 [] os o) (changed_at os o id (with_outcome None (Some reason)) (field_of-push os o) (order_of os)))
    (append-nil (sessions_of os)) refl
sheet_of-push os (op.Ids number) sound allowed = sheet_of-fields os (op.Ids number) _ _ _
    (ordered os (op.Ids number) _ _ (order_from-push 1 [] os (op.Ids number)) (unchanged os (op.Ids number) (field_of-push os (op.Ids number)) (order_of os)))
    (append-nil (sessions_of os)) refl
