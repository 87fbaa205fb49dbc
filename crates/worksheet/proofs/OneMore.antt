-- One more op: what the whole list says then, against an edit of what it said before.
use Rattle.std.proofs.Common.{◌≡◌, ℕ, List, [], ◌∷◌, ◌++◌, refl, ap, ◌∙◌, Bool, true, false, Option, Some, None}
use Rattle.std.specs.Prelude.{filter, unwrap_or, if◌then◌else◌}
use Rattle.std.specs.List.{last_or}
use Rattle.std.proofs.lemmas.List.{append-nil}
use Rattle.block_tree.specs.declared.reason.Reason.{Reason}
use Rattle.worksheet.specs.declared.op.Op.{Op}
use Rattle.worksheet.specs.declared.op.Op.TheVariants as op
use Rattle.worksheet.specs.declared.field.Answer.{Answer}
use Rattle.worksheet.specs.declared.field.Field.{Field}
use Rattle.worksheet.specs.declared.field.Session.{Session}
use Rattle.worksheet.specs.Ops.{next_after, next_from, next_of, is_about, about_from, last_of, session_by, input_by, outcome_by, last_given, field_of, order_after, order_from, sessions_of}
use Rattle.worksheet.specs.inside.Words.{about, field_by}
use Rattle.worksheet.specs.Edits.{with_input, with_outcome}

-- The lists, with one op more.

pub next_from-push : (next : ℕ) (os : List Op) (o : Op) → next_from next (os ++ o ∷ []) ≡ next_after (next_from next os) o
next_from-push next [] o = refl
next_from-push next (p ∷ os) o = next_from-push (next_after next p) os o

pub order_from-push : (next : ℕ) (ids : List ℕ) (os : List Op) (o : Op) → order_from next ids (os ++ o ∷ []) ≡ order_after (next_from next os) o (order_from next ids os)
order_from-push next ids [] o = refl
order_from-push next ids (p ∷ os) o = order_from-push (next_after next p) (order_after next p ids) os o

pub about_from-push : (id next : ℕ) (os : List Op) (o : Op)
    → about_from id next (os ++ o ∷ []) ≡ about_from id next os ++ (if is_about id (next_from next os) o then o ∷ [] else [])
about_from-push id next [] o = refl
about_from-push id next (p ∷ os) o = go (is_about id next p) (about_from-push id (next_after next p) os o)
  where
    go : (b : Bool) → about_from id (next_after next p) (os ++ o ∷ []) ≡ about_from id (next_after next p) os ++ (if is_about id (next_from (next_after next p) os) o then o ∷ [] else [])
        → (if b then p ∷ about_from id (next_after next p) (os ++ o ∷ []) else about_from id (next_after next p) (os ++ o ∷ []))
        ≡ (if b then p ∷ about_from id (next_after next p) os else about_from id (next_after next p) os) ++ (if is_about id (next_from (next_after next p) os) o then o ∷ [] else [])
    go true rest = ap (λ (qs : List Op). p ∷ qs) rest
    go false rest = rest

pub sessions_of-push : (os : List Op) (o : Op) → sessions_of (os ++ o ∷ []) ≡ sessions_of os ++ sessions_of (o ∷ [])
sessions_of-push [] o = refl
sessions_of-push (op.Session name tab words ∷ os) o = ap (λ (ss : List Session). record { name = name; tab = tab; words = words } ∷ ss) (sessions_of-push os o)
sessions_of-push (op.New place session input ∷ os) o = sessions_of-push os o
sessions_of-push (op.Set id input ∷ os) o = sessions_of-push os o
sessions_of-push (op.Remove id ∷ os) o = sessions_of-push os o
sessions_of-push (op.Move id place ∷ os) o = sessions_of-push os o
sessions_of-push (op.Clear id ∷ os) o = sessions_of-push os o
sessions_of-push (op.Answer id prompt output ∷ os) o = sessions_of-push os o
sessions_of-push (op.Lost id reason ∷ os) o = sessions_of-push os o
sessions_of-push (op.Ids number ∷ os) o = sessions_of-push os o

-- the last of a kind is the added op, where that is of the kind
last_or-push : (test : Op → Bool) (first : Option Op) (os : List Op) (o : Op)
    → last_or first (filter test (os ++ o ∷ [])) ≡ (if test o then Some o else last_or first (filter test os))
last_or-push test first [] o = go (test o)
  where
    go : (b : Bool) → last_or first (if b then o ∷ [] else []) ≡ (if b then Some o else first)
    go true = refl
    go false = refl
last_or-push test first (p ∷ os) o = go (test p) (last_or-push test (Some p) os o) (last_or-push test first os o)
  where
    go : (b : Bool)
        → last_or (Some p) (filter test (os ++ o ∷ [])) ≡ (if test o then Some o else last_or (Some p) (filter test os))
        → last_or first (filter test (os ++ o ∷ [])) ≡ (if test o then Some o else last_or first (filter test os))
        → last_or first (if b then p ∷ filter test (os ++ o ∷ []) else filter test (os ++ o ∷ []))
        ≡ (if test o then Some o else last_or first (if b then p ∷ filter test os else filter test os))
    go true following front = following
    go false following front = front

pub last_of-push : (test : Op → Bool) (os : List Op) (o : Op) → last_of test (os ++ o ∷ []) ≡ (if test o then Some o else last_of test os)
last_of-push test os o = last_or-push test None os o

-- A field, with one op more.

abbrev field_with : ℕ → List ℕ → List ℕ → Option Answer → Option Reason → Field
field_with id session input answer lost = record { id = id; session = session; input = input; answer = answer; lost = lost }

-- what an op does to the field that it is about
abbrev pub changed : Op → Field → Field
changed (op.Session name tab words) f = f
changed (op.New after session input) f = record f { session = session; input = input; answer = None; lost = None }
changed (op.Set id input) f = with_input input f
changed (op.Remove id) f = f
changed (op.Move id after) f = f
changed (op.Clear id) f = with_outcome None None f
changed (op.Answer id prompt output) f = with_outcome (Some (record { prompt = prompt; output = output })) None f
changed (op.Lost id reason) f = with_outcome None (Some reason) f
changed (op.Ids number) f = f

last_given-push : {A : Type 0} (by : Op → Option A) (given : A) (os : List Op) (o : Op) → last_given by given (os ++ o ∷ []) ≡ unwrap_or (by o) (last_given by given os)
last_given-push by given [] o = refl
last_given-push by given (p ∷ os) o = last_given-push by (unwrap_or (by p) given) os o

-- a field of this session, input, answer and reason, with an op more about it
given-push : (o : Op) (id : ℕ) (session input : List ℕ) (outcome : Option Answer × Option Reason)
    → field_with id (unwrap_or (session_by o) session) (unwrap_or (input_by o) input) (unwrap_or (outcome_by o) outcome).0 (unwrap_or (outcome_by o) outcome).1
    ≡ changed o (field_with id session input outcome.0 outcome.1)
given-push (op.Session name tab words) id session input outcome = refl
given-push (op.New after of text) id session input outcome = refl
given-push (op.Set other text) id session input outcome = refl
given-push (op.Remove other) id session input outcome = refl
given-push (op.Move other after) id session input outcome = refl
given-push (op.Clear other) id session input outcome = refl
given-push (op.Answer other prompt output) id session input outcome = refl
given-push (op.Lost other reason) id session input outcome = refl
given-push (op.Ids number) id session input outcome = refl

field_by-push : (id : ℕ) (os : List Op) (o : Op) → field_by id (os ++ o ∷ []) ≡ changed o (field_by id os)
field_by-push id os o =
    rw (last_given-push session_by [] os o, last_given-push input_by [] os o, last_given-push outcome_by (None, None) os o)
    (given-push o id (last_given session_by [] os) (last_given input_by [] os) (last_given outcome_by (None, None) os))

pub field_of-push : (os : List Op) (o : Op) (id : ℕ) → field_of (os ++ o ∷ []) id ≡ (if is_about id (next_of os) o then changed o (field_of os id) else field_of os id)
field_of-push os o id = ap (λ (qs : List Op). field_by id qs) (about_from-push id 1 os o) ∙ go (is_about id (next_of os) o)
  where
    go : (b : Bool) → field_by id (about id os ++ (if b then o ∷ [] else [])) ≡ (if b then changed o (field_by id (about id os)) else field_by id (about id os))
    go true = field_by-push id (about id os) o
    go false = ap (λ (qs : List Op). field_by id qs) (append-nil (about id os))
