-- Sessions by name in their map.
use Rattle.std.proofs.Common.{◌≡◌, ℕ, List, [], ◌∷◌, ◌++◌, sym, ◌∙◌, subst, refl, Bool, true, false, Option, Some, None}
use Rattle.std.specs.Prelude.{◌&&◌, not, is_some, if◌then◌else◌}
use Rattle.std.specs.Map.{lookup}
use Rattle.std.specs.Str.{bytes_eq}
use Rattle.std.proofs.lemmas.Slice.Eq.{bytes_eq-Decides}
use Rattle.worksheet.specs.declared.field.Session.{Session}
use Rattle.worksheet.specs.Names.{is_name}
use Rattle.worksheet.specs.Checks.{is_new_name, is_ready_name, session_named}
use Rattle.worksheet.specs.Edits.{contents_with}
use Rattle.worksheet.specs.inside.Entries.{AreNamed, AreSessions, shown, reserved}
use Rattle.worksheet.proofs.Lookup.{flat, is_reserved, lookup-shown, lookup-absent, none_from}

abbrev pub name_in : Session → List ℕ
name_in session = session.name

flips : (a b : List ℕ) → bytes_eq a b ≡ bytes_eq b a
flips a b = go (bytes_eq a b) (bytes_eq b a) refl refl
  where
    go : (x y : Bool) → bytes_eq a b ≡ x → bytes_eq b a ≡ y → x ≡ y
    go true true p q = refl
    go true false p q = sym ((bytes_eq-Decides b a).1 (sym ((bytes_eq-Decides a b).0 p))) ∙ q
    go false true p q = sym p ∙ (bytes_eq-Decides a b).1 (sym ((bytes_eq-Decides b a).0 q))
    go false false p q = refl

-- what is found under a name
pub found_named : (es : List (List ℕ × Option Session)) (name : List ℕ) → AreSessions es → flat (lookup (bytes_eq name) es) ≡ session_named (shown es) name
found_named es name a = lookup-shown name_in (bytes_eq name) (λ k. bytes_eq k name) (flips name) es a.fits

-- no session has what is no name
pub unnamed : (ss : List Session) (name : List ℕ) → AreNamed ss → (is_name name ≡ true → ⊥) → session_named ss name ≡ None
unnamed [] name a n = refl
unnamed (s ∷ ss) name a n = go (bytes_eq s.name name) refl (unnamed ss name a.1 n)
  where
    go : (b : Bool) → bytes_eq s.name name ≡ b → session_named ss name ≡ None → (if b then Some s else session_named ss name) ≡ None
    go true e rest = absurd (n (subst (λ (bytes : List ℕ). is_name bytes ≡ true) ((bytes_eq-Decides s.name name).0 e) a.0))
    go false e rest = rest

-- nothing is under a new name, where it isn't reserved
pub name_absent : (es : List (List ℕ × Option Session)) (name : List ℕ) → AreSessions es → is_new_name (contents_with [] (shown es) 0) name ≡ true
    → is_ready_name (reserved es) name ≡ false → lookup (bytes_eq name) es ≡ None
name_absent es name a new h =
    lookup-absent name_in (bytes_eq name) (λ k. bytes_eq k name) (flips name) es a.fits (none_from (session_named (shown es) name) (free (is_name name) (is_some (session_named (shown es) name)) new)) (other (reserved es) h)
  where
    free : (b c : Bool) → (b && not c) ≡ true → c ≡ false
    free true true e = cc
    free true false e = refl
    free false c e = cc

    other : (o : Option (List ℕ)) → is_ready_name o name ≡ false → is_reserved name_in (bytes_eq name) (λ k. bytes_eq k name) (flips name) o ≡ false
    other None e = refl
    other (Some k) e = flips name k ∙ e

pub AreNamed-push : (ss : List Session) (s : Session) → AreNamed ss → is_name s.name ≡ true → AreNamed (ss ++ s ∷ [])
AreNamed-push [] s a n = (n, tt)
AreNamed-push (t ∷ ss) s a n = (a.0, AreNamed-push ss s a.1 n)
