-- What looking a number or a name up finds, and what follows from no refusal.
use Rattle.std.proofs.Common.{◌≡◌, ℕ, List, [], ◌∷◌, refl, arith, Bool, true, false, Some, None}
use Rattle.std.specs.Prelude.{◌==◌, not, if◌then◌else◌}
use Rattle.std.specs.Str.{bytes_eq}
use Rattle.std.proofs.lemmas.Slice.Eq.{bytes_eq-Decides}
use Rattle.std.proofs.lemmas.Bool.Decides.{nat_tests}
use Rattle.worksheet.specs.declared.refusal.Refusal.{Refusal}
use Rattle.worksheet.specs.declared.field.Field.{Field}
use Rattle.worksheet.specs.declared.field.Session.{Session}
use Rattle.worksheet.specs.Checks.{field_in, session_named, first_of}

-- none of these refusals applies
abbrev pub NoneApplies : List (Refusal × Bool) → Type 0
NoneApplies [] = Unit {0}
NoneApplies (r ∷ rs) = (r.1 ≡ false) × NoneApplies rs

pub none_applies : (rs : List (Refusal × Bool)) → first_of rs ≡ None → NoneApplies rs
none_applies [] h = tt
none_applies (r ∷ rs) h = go r.1 refl h (none_applies rs)
  where
    go : (b : Bool) → r.1 ≡ b → (if b then Some r.0 else first_of rs) ≡ None → (first_of rs ≡ None → NoneApplies rs) → NoneApplies (r ∷ rs)
    go true e h rest = cc
    go false e h rest = (e, rest h)

pub true_from_not : (b : Bool) → not b ≡ false → b ≡ true
true_from_not true h = refl
true_from_not false h = cc

-- the session that is found has the name
pub session_named-name : (ss : List Session) (name : List ℕ) (s : Session) → session_named ss name ≡ Some s → s.name ≡ name
session_named-name [] name s h = cc
session_named-name (t ∷ ss) name s h = go (bytes_eq t.name name) refl h (session_named-name ss name s)
  where
    go : (b : Bool) → bytes_eq t.name name ≡ b → (if b then Some t else session_named ss name) ≡ Some s → (session_named ss name ≡ Some s → s.name ≡ name) → s.name ≡ name
    go true e h rest = let is : t ≡ s = cc in rw (← is) ((bytes_eq-Decides t.name name).0 e)
    go false e h rest = rest h

-- the field that is found has the number
pub field_in-id : (fs : List Field) (id : ℕ) (f : Field) → field_in fs id ≡ Some f → f.id ≡ id
field_in-id [] id f h = cc
field_in-id (g ∷ fs) id f h = go (g.id == id) refl h (field_in-id fs id f)
  where
    go : (b : Bool) → (g.id == id) ≡ b → (if b then Some g else field_in fs id) ≡ Some f → (field_in fs id ≡ Some f → f.id ≡ id) → f.id ≡ id
    go true e h rest = let is : g ≡ f = cc in rw (← is) (grind (arith, nat_tests))
    go false e h rest = rest h
