-- What worksheets of allowed ops have in common.
use Rattle.std.proofs.Common.{◌≡◌, ℕ, Bool, true, false, List, [], ◌∷◌, ◌++◌, Some, None, refl, sym, ap, ◌∙◌, subst, append_assoc, append-nil}
use Rattle.std.specs.Prelude.{is_some, if◌then◌else◌}
use Rattle.std.specs.List.{AllByRecursion}
use Rattle.std.specs.Str.{bytes_eq}
use Rattle.std.proofs.lemmas.Slice.Eq.{bytes_eq-Decides}
use Rattle.worksheet.specs.declared.op.Op.{Op}
use Rattle.worksheet.specs.declared.op.Op.TheVariants as op
use Rattle.worksheet.specs.declared.field.Session.{Session}
use Rattle.worksheet.specs.Names.{is_name}
use Rattle.worksheet.specs.Contents.{Contents}
use Rattle.worksheet.specs.Ops.{sheet_of, sessions_of}
use Rattle.worksheet.specs.Edits.{HasNumbersApart, edited}
use Rattle.worksheet.specs.Checks.{Allowed, AllowedFrom, first_refusal, refusals, session_named}
use Rattle.worksheet.specs.Laws.{IsNamed}
use Rattle.worksheet.proofs.Finds.{none_applies, true_from_not}
use Rattle.worksheet.proofs.OneMore.{sessions_of-push}
use Rattle.worksheet.proofs.SheetLaws.{sheet_of-push}
use Rattle.worksheet.proofs.SoundLaws.{IsSound-edited}

named_push : (ss ts : List Session) → AllByRecursion IsNamed ss → AllByRecursion IsNamed ts → AllByRecursion IsNamed (ss ++ ts)
named_push [] ts all more = more
named_push (s ∷ ss) ts all more = (all.0, named_push ss ts all.1 more)

-- the session that is found is one of these, so its name is one
pub named : (ss : List Session) (name : List ℕ) → AllByRecursion IsNamed ss → is_some (session_named ss name) ≡ true → is_name name ≡ true
named [] name all found = cc
named (s ∷ ss) name all found = go (bytes_eq s.name name) refl found (named ss name all.1)
  where
    go : (b : Bool) → bytes_eq s.name name ≡ b → is_some (if b then Some s else session_named ss name) ≡ true → (is_some (session_named ss name) ≡ true → is_name name ≡ true) → is_name name ≡ true
    go true e h rest = subst (λ (n : List ℕ). is_name n ≡ true) ((bytes_eq-Decides s.name name).0 e) all.0
    go false e h rest = rest h

-- the session that an allowed op makes has a name
named_one : (sheet : Contents) (o : Op) → first_refusal sheet o ≡ None → AllByRecursion IsNamed (sessions_of (o ∷ []))
named_one sheet (op.Session name tab words) allowed = (true_from_not (is_name name) (none_applies (refusals sheet (op.Session name tab words)) allowed).0, tt)
named_one sheet (op.New after session input) allowed = tt
named_one sheet (op.Set id input) allowed = tt
named_one sheet (op.Remove id) allowed = tt
named_one sheet (op.Move id after) allowed = tt
named_one sheet (op.Clear id) allowed = tt
named_one sheet (op.Answer id prompt output) allowed = tt
named_one sheet (op.Lost id reason) allowed = tt
named_one sheet (op.Ids number) allowed = tt

all_named : (before os : List Op) → AllByRecursion IsNamed (sessions_of before) → AllowedFrom before os → AllByRecursion IsNamed (sessions_of (before ++ os))
all_named before [] names allowed = subst (λ (os : List Op). AllByRecursion IsNamed (sessions_of os)) (sym (append-nil before)) names
all_named before (o ∷ os) names allowed =
    let more : AllByRecursion IsNamed (sessions_of (before ++ o ∷ [])) = rw (sessions_of-push before o) (named_push (sessions_of before) (sessions_of (o ∷ [])) names (named_one (sheet_of before) o allowed.0)) in
    subst (λ (qs : List Op). AllByRecursion IsNamed (sessions_of qs)) (append_assoc before (o ∷ []) os) (all_named (before ++ o ∷ []) os more allowed.1)

-- the worksheet of allowed ops is sound
all_sound : (before os : List Op) → HasNumbersApart (sheet_of before) → AllowedFrom before os → HasNumbersApart (sheet_of (before ++ os))
all_sound before [] sound allowed = subst (λ (os : List Op). HasNumbersApart (sheet_of os)) (sym (append-nil before)) sound
all_sound before (o ∷ os) sound allowed =
    let more : HasNumbersApart (sheet_of (before ++ o ∷ [])) = subst (λ (s : Contents). HasNumbersApart s) (sym (sheet_of-push before o sound allowed.0)) (IsSound-edited (sheet_of before) o allowed.0 sound) in
    subst (λ (qs : List Op). HasNumbersApart (sheet_of qs)) (append_assoc before (o ∷ []) os) (all_sound (before ++ o ∷ []) os more allowed.1)

pub sound_of : (os : List Op) → Allowed os → HasNumbersApart (sheet_of os)
sound_of os allowed = all_sound [] os (record { apart = tt; below = tt }) allowed

-- an op makes one worksheet of another, whatever ops had made that
pub same_next : (a b : List Op) (o : Op) → Allowed a → sheet_of a ≡ sheet_of b → first_refusal (sheet_of a) o ≡ None → sheet_of (a ++ o ∷ []) ≡ sheet_of (b ++ o ∷ [])
same_next a b o allowed same next =
    let sound = sound_of a allowed in
    sheet_of-push a o sound next ∙ ap (λ (s : Contents). edited s o) same
    ∙ sym (sheet_of-push b o (subst (λ (s : Contents). HasNumbersApart s) same sound) (subst (λ (s : Contents). first_refusal s o ≡ None) same next))

pub sessions_have_names : (os : List Op) → Allowed os → AllByRecursion IsNamed (sheet_of os).sessions
sessions_have_names os allowed = all_named [] os tt allowed
