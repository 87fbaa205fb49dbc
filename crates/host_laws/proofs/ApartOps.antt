-- What a worksheet has whatever answers it has.
use Rattle.std.proofs.Common.{◌≡◌, ◌+◌, ℕ, List, [], ◌∷◌, ◌++◌, length, drop, map, refl, ap, sym, ◌∙◌, Bool, true, false, Option, Some, None}
use Rattle.std.specs.Prelude.{if◌then◌else◌, ◌==◌, cond, unwrap_or}
use Rattle.std.specs.List.{find}
use Rattle.block_tree.specs.Tree.{Tree}
use Rattle.block_tree.specs.declared.reason.Reason.{Reason}
use Rattle.worksheet.specs.declared.op.Op.{Op}
use Rattle.worksheet.specs.declared.op.Op.TheVariants as op
use Rattle.worksheet.specs.declared.field.Field.{Field}
use Rattle.worksheet.specs.declared.field.Session.{Session}
use Rattle.worksheet.specs.Ops.{next_from, next_of, order_from, sessions_of, about_from, last_given, session_by, input_by, field_of, placed}
use Rattle.worksheet.specs.inside.Words.{order_of, about, without}
use Rattle.session_engine.specs.World.{World, session_of_field, input_of}
use Rattle.session_engine.specs.inside.Words.{by_field}
use Rattle.host_laws.specs.Apart.{is_commanded, commanded}

pub commanded-push : (os : List Op) (o : Op) → commanded (os ++ o ∷ []) ≡ commanded os ++ (if is_commanded o then o ∷ [] else [])
commanded-push [] o = refl
commanded-push (p ∷ os) o = go (is_commanded p) (commanded-push os o)
  where
    go : (b : Bool) → commanded (os ++ o ∷ []) ≡ commanded os ++ (if is_commanded o then o ∷ [] else [])
        → (if b then p ∷ commanded (os ++ o ∷ []) else commanded (os ++ o ∷ [])) ≡ (if b then p ∷ commanded os else commanded os) ++ (if is_commanded o then o ∷ [] else [])
    go true ih = ap (λ (xs : List Op). p ∷ xs) ih
    go false ih = ih

next_is : (next : ℕ) (os : List Op) → next_from next os ≡ next_from next (commanded os)
next_is next [] = refl
next_is next (op.Session name tab words ∷ os) = next_is next os
next_is next (op.New after session input ∷ os) = next_is (next + 1) os
next_is next (op.Set id input ∷ os) = next_is next os
next_is next (op.Remove id ∷ os) = next_is next os
next_is next (op.Move id after ∷ os) = next_is next os
next_is next (op.Clear id ∷ os) = next_is next os
next_is next (op.Answer id prompt output ∷ os) = next_is next os
next_is next (op.Lost id reason ∷ os) = next_is next os
next_is next (op.Ids number ∷ os) = next_is number os

order_is : (next : ℕ) (ids : List ℕ) (os : List Op) → order_from next ids os ≡ order_from next ids (commanded os)
order_is next ids [] = refl
order_is next ids (op.Session name tab words ∷ os) = order_is next ids os
order_is next ids (op.New after session input ∷ os) = order_is (next + 1) (placed after next ids) os
order_is next ids (op.Set id input ∷ os) = order_is next ids os
order_is next ids (op.Remove id ∷ os) = order_is next (without id ids) os
order_is next ids (op.Move id after ∷ os) = order_is next (placed after id (without id ids)) os
order_is next ids (op.Clear id ∷ os) = order_is next ids os
order_is next ids (op.Answer id prompt output ∷ os) = order_is next ids os
order_is next ids (op.Lost id reason ∷ os) = order_is next ids os
order_is next ids (op.Ids number ∷ os) = order_is number ids os

sessions_are : (os : List Op) → sessions_of os ≡ sessions_of (commanded os)
sessions_are [] = refl
sessions_are (op.Session name tab words ∷ os) = ap (λ (ss : List Session). record { name = name; tab = tab; words = words } ∷ ss) (sessions_are os)
sessions_are (op.New after session input ∷ os) = sessions_are os
sessions_are (op.Set id input ∷ os) = sessions_are os
sessions_are (op.Remove id ∷ os) = sessions_are os
sessions_are (op.Move id after ∷ os) = sessions_are os
sessions_are (op.Clear id ∷ os) = sessions_are os
sessions_are (op.Answer id prompt output ∷ os) = sessions_are os
sessions_are (op.Lost id reason ∷ os) = sessions_are os
sessions_are (op.Ids number ∷ os) = sessions_are os

module _ (by : Op → Option (List ℕ)) (never : (id : ℕ) (prompt : List ℕ) (output : Tree) → by (op.Answer id prompt output) ≡ None) (nor : (id : ℕ) (reason : Reason) → by (op.Lost id reason) ≡ None) where
  with_it : (b : Bool) (o : Op) (xs ys : List Op) → ((g : List ℕ) → last_given by g xs ≡ last_given by g ys)
      → (g : List ℕ) → last_given by g (if b then o ∷ xs else xs) ≡ last_given by g (if b then o ∷ ys else ys)
  with_it true o xs ys h g = h (unwrap_or (by o) g)
  with_it false o xs ys h g = h g

  past_it : (b : Bool) (o : Op) (xs : List Op) → by o ≡ None → (g : List ℕ) → last_given by g (if b then o ∷ xs else xs) ≡ last_given by g xs
  past_it true o xs h g = ap (λ (x : Option (List ℕ)). last_given by (unwrap_or x g) xs) h
  past_it false o xs h g = refl

  pub given_alike : (id next : ℕ) (os : List Op) (g : List ℕ) → last_given by g (about_from id next os) ≡ last_given by g (about_from id next (commanded os))
  given_alike id next [] g = refl
  given_alike id next (op.Session name tab words ∷ os) g = given_alike id next os g
  given_alike id next (op.New after session input ∷ os) g =
      with_it (next == id) (op.New after session input) (about_from id (next + 1) os) (about_from id (next + 1) (commanded os)) (given_alike id (next + 1) os) g
  given_alike id next (op.Set j input ∷ os) g = with_it (j == id) (op.Set j input) (about_from id next os) (about_from id next (commanded os)) (given_alike id next os) g
  given_alike id next (op.Remove j ∷ os) g = with_it (j == id) (op.Remove j) (about_from id next os) (about_from id next (commanded os)) (given_alike id next os) g
  given_alike id next (op.Move j after ∷ os) g = with_it (j == id) (op.Move j after) (about_from id next os) (about_from id next (commanded os)) (given_alike id next os) g
  given_alike id next (op.Clear j ∷ os) g = with_it (j == id) (op.Clear j) (about_from id next os) (about_from id next (commanded os)) (given_alike id next os) g
  given_alike id next (op.Answer j prompt output ∷ os) g =
      past_it (j == id) (op.Answer j prompt output) (about_from id next os) (never j prompt output) g ∙ given_alike id next os g
  given_alike id next (op.Lost j reason ∷ os) g = past_it (j == id) (op.Lost j reason) (about_from id next os) (nor j reason) g ∙ given_alike id next os g
  given_alike id next (op.Ids number ∷ os) g = given_alike id number os g

  pub last_alike : (id : ℕ) (os us : List Op) → commanded os ≡ commanded us → last_given by [] (about id os) ≡ last_given by [] (about id us)
  last_alike id os us h = given_alike id 1 os [] ∙ ap (λ (xs : List Op). last_given by [] (about_from id 1 xs)) h ∙ sym (given_alike id 1 us [])

pub session_alike : (os us : List Op) (id : ℕ) → commanded os ≡ commanded us → (field_of os id).session ≡ (field_of us id).session
session_alike os us id h = last_alike session_by (λ j p b. refl) (λ j r. refl) id os us h

pub input_alike : (os us : List Op) (id : ℕ) → commanded os ≡ commanded us → (field_of os id).input ≡ (field_of us id).input
input_alike os us id h = last_alike input_by (λ j p b. refl) (λ j r. refl) id os us h

found_alike : (g : Field → List ℕ) (os us : List Op) (id : ℕ) (ids : List ℕ) → ((j : ℕ) → g (field_of os j) ≡ g (field_of us j))
    → by_field (find (λ f. f.id == id) (map (field_of os) ids)) [] g ≡ by_field (find (λ f. f.id == id) (map (field_of us) ids)) [] g
found_alike g os us id [] h = refl
found_alike g os us id (j ∷ ids) h = go (j == id) (found_alike g os us id ids h)
  where
    go : (b : Bool) → by_field (find (λ f. f.id == id) (map (field_of os) ids)) [] g ≡ by_field (find (λ f. f.id == id) (map (field_of us) ids)) [] g
        → by_field (cond b (Some (field_of os j)) (find (λ f. f.id == id) (map (field_of os) ids))) [] g ≡ by_field (cond b (Some (field_of us j)) (find (λ f. f.id == id) (map (field_of us) ids))) [] g
    go true ih = h j
    go false ih = ih

pub order_alike : (os us : List Op) → commanded os ≡ commanded us → order_of os ≡ order_of us
order_alike os us h = order_is 1 [] os ∙ ap (λ (xs : List Op). order_from 1 [] xs) h ∙ sym (order_is 1 [] us)

pub next_alike : (os us : List Op) → commanded os ≡ commanded us → next_of os ≡ next_of us
next_alike os us h = next_is 1 os ∙ ap (λ (xs : List Op). next_from 1 xs) h ∙ sym (next_is 1 us)

pub sessions_alike : (os us : List Op) → commanded os ≡ commanded us → sessions_of os ≡ sessions_of us
sessions_alike os us h = sessions_are os ∙ ap sessions_of h ∙ sym (sessions_are us)

pub session_of_alike : (w x : World) (id : ℕ) → commanded w.ops ≡ commanded x.ops → session_of_field w id ≡ session_of_field x id
session_of_alike w x id h =
    ap (λ (ids : List ℕ). by_field (find (λ (f : Field). f.id == id) (map (field_of w.ops) ids)) [] (λ f. f.session)) (order_alike w.ops x.ops h)
    ∙ found_alike (λ f. f.session) w.ops x.ops id (order_of x.ops) (λ j. session_alike w.ops x.ops j h)

pub input_of_alike : (w x : World) (id : ℕ) → commanded w.ops ≡ commanded x.ops → input_of w id ≡ input_of x id
input_of_alike w x id h =
    ap (λ (ids : List ℕ). by_field (find (λ (f : Field). f.id == id) (map (field_of w.ops) ids)) [] (λ f. f.input)) (order_alike w.ops x.ops h)
    ∙ found_alike (λ f. f.input) w.ops x.ops id (order_of x.ops) (λ j. input_alike w.ops x.ops j h)

-- what follows a list
pub drop_length : (os us : List Op) → drop (length os) (os ++ us) ≡ us
drop_length [] us = refl
drop_length (o ∷ os) us = drop_length os us

pub drop_itself : (os : List Op) → drop (length os) os ≡ []
drop_itself [] = refl
drop_itself (o ∷ os) = drop_itself os
