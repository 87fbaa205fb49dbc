-- Numbers, names and sessions in worksheets of allowed ops.
use Rattle.std.proofs.Common.{◌≡◌, ℕ, ◌==◌, Bool, true, false, List, [], ◌∷◌, ◌++◌, map, Option, Some, None, refl, sym, ◌∙◌, subst, append_assoc, append-nil}
use Rattle.std.specs.Prelude.{is_some, not, filter, if◌then◌else◌}
use Rattle.std.specs.List.{AllByRecursion}
use Rattle.std.specs.Str.{bytes_eq}
use Rattle.std.proofs.lemmas.Bool.{true≢false, false≢true}
use Rattle.std.proofs.lemmas.Slice.Eq.{bytes_eq-Decides}
use Rattle.worksheet.specs.declared.op.Op.{Op}
use Rattle.worksheet.specs.declared.op.Op.TheVariants as op
use Rattle.worksheet.specs.declared.field.Field.{Field}
use Rattle.worksheet.specs.declared.field.Session.{Session}
use Rattle.worksheet.specs.Contents.{Contents}
use Rattle.worksheet.specs.Ops.{sheet_of, sessions_of, put_after}
use Rattle.worksheet.specs.Edits.{edited, at_field, with_input, with_outcome, placed_field, fields_without, moved}
use Rattle.worksheet.specs.Checks.{Allowed, AllowedFrom, first_refusal, refusals, session_named, has_session, field_in}
use Rattle.worksheet.specs.Laws.{AreNamedApart, BelongToSessions}
use Rattle.worksheet.proofs.Finds.{none_applies, true_from_not}
use Rattle.worksheet.proofs.OneMore.{sessions_of-push}
use Rattle.worksheet.proofs.SheetLaws.{sheet_of-push}
use Rattle.worksheet.proofs.NextLaws.{sound_of}
use Rattle.worksheet.proofs.Existence.{allowed_goes_on}

pub sheet_after : (os : List Op) (o : Op) → Allowed os → first_refusal (sheet_of os) o ≡ None → sheet_of (os ++ o ∷ []) ≡ edited (sheet_of os) o
sheet_after os o allowed next = sheet_of-push os o (sound_of os allowed) next

front_from : (before os more : List Op) → AllowedFrom before (os ++ more) → AllowedFrom before os
front_from before [] more allowed = tt
front_from before (o ∷ os) more allowed = (allowed.0, front_from (before ++ o ∷ []) os more allowed.1)

pub allowed_front : (os more : List Op) → Allowed (os ++ more) → Allowed os
allowed_front os more allowed = front_from [] os more allowed

-- Names.

-- what is not found is not the first, and not after it
pub not_first : (s : Session) (ss : List Session) (name : List ℕ) → session_named (s ∷ ss) name ≡ None → (bytes_eq s.name name ≡ false) × (session_named ss name ≡ None)
not_first s ss name h = go (bytes_eq s.name name) refl h
  where
    go : (b : Bool) → bytes_eq s.name name ≡ b → (if b then Some s else session_named ss name) ≡ None → (bytes_eq s.name name ≡ false) × (session_named ss name ≡ None)
    go true e h = let no : Some s ≡ None = h in cc
    go false e h = (e, h)

pub turned : (a b : List ℕ) → bytes_eq a b ≡ false → bytes_eq b a ≡ false
turned a b h = go (bytes_eq b a) refl
  where
    go : (c : Bool) → bytes_eq b a ≡ c → bytes_eq b a ≡ false
    go true e = absurd (false≢true (sym h ∙ (bytes_eq-Decides a b).1 (sym ((bytes_eq-Decides b a).0 e))))
    go false e = e

unfound_push : (ss : List Session) (t : Session) (name : List ℕ) → session_named ss name ≡ None → bytes_eq t.name name ≡ false → session_named (ss ++ t ∷ []) name ≡ None
unfound_push [] t name h e = rw e refl
unfound_push (s ∷ ss) t name h e =
    let n = not_first s ss name h in rw n.0 (unfound_push ss t name n.1 e)

pub apart_push : (ss : List Session) (t : Session) → AreNamedApart ss → session_named ss t.name ≡ None → AreNamedApart (ss ++ t ∷ [])
apart_push [] t apart h = (refl, tt)
apart_push (s ∷ ss) t apart h =
    let n = not_first s ss t.name h in
    (unfound_push ss t s.name apart.0 (turned s.name t.name n.0), apart_push ss t apart.1 n.1)

pub none_of : (found : Option Session) → is_some found ≡ false → found ≡ None
none_of None h = refl
none_of (Some s) h = absurd (true≢false h)

apart_one : (os : List Op) (o : Op) → AreNamedApart (sessions_of os) → first_refusal (sheet_of os) o ≡ None → AreNamedApart (sessions_of os ++ sessions_of (o ∷ []))
apart_one os (op.Session name tab words) apart next =
    apart_push (sessions_of os) (record { name = name; tab = tab; words = words }) apart (none_of (session_named (sessions_of os) name) (none_applies (refusals (sheet_of os) (op.Session name tab words)) next).1.0)
apart_one os (op.New after session input) apart next = subst AreNamedApart (sym (append-nil (sessions_of os))) apart
apart_one os (op.Set id input) apart next = subst AreNamedApart (sym (append-nil (sessions_of os))) apart
apart_one os (op.Remove id) apart next = subst AreNamedApart (sym (append-nil (sessions_of os))) apart
apart_one os (op.Move id after) apart next = subst AreNamedApart (sym (append-nil (sessions_of os))) apart
apart_one os (op.Clear id) apart next = subst AreNamedApart (sym (append-nil (sessions_of os))) apart
apart_one os (op.Answer id prompt output) apart next = subst AreNamedApart (sym (append-nil (sessions_of os))) apart
apart_one os (op.Lost id reason) apart next = subst AreNamedApart (sym (append-nil (sessions_of os))) apart
apart_one os (op.Ids number) apart next = subst AreNamedApart (sym (append-nil (sessions_of os))) apart

apart_from : (before os : List Op) → AreNamedApart (sessions_of before) → AllowedFrom before os → AreNamedApart (sessions_of (before ++ os))
apart_from before [] apart allowed = subst (λ (os : List Op). AreNamedApart (sessions_of os)) (sym (append-nil before)) apart
apart_from before (o ∷ os) apart allowed =
    let more : AreNamedApart (sessions_of (before ++ o ∷ [])) = subst AreNamedApart (sym (sessions_of-push before o)) (apart_one before o apart allowed.0) in
    subst (λ (qs : List Op). AreNamedApart (sessions_of qs)) (append_assoc before (o ∷ []) os) (apart_from (before ++ o ∷ []) os more allowed.1)

pub sessions_are_apart : (os : List Op) → Allowed os → AreNamedApart (sheet_of os).sessions
sessions_are_apart os allowed = apart_from [] os tt allowed

-- Fields and their sessions.

abbrev Belongs : List Session → Field → Type 0
Belongs ss f = is_some (session_named ss f.session) ≡ true

-- also with a session more
found_push : (ss : List Session) (t : Session) (name : List ℕ) → is_some (session_named ss name) ≡ true → is_some (session_named (ss ++ t ∷ []) name) ≡ true
found_push [] t name h = absurd (false≢true h)
found_push (s ∷ ss) t name h = go (bytes_eq s.name name) h (found_push ss t name)
  where
    go : (b : Bool) → is_some (if b then Some s else session_named ss name) ≡ true → (is_some (session_named ss name) ≡ true → is_some (session_named (ss ++ t ∷ []) name) ≡ true)
        → is_some (if b then Some s else session_named (ss ++ t ∷ []) name) ≡ true
    go true h rest = refl
    go false h rest = rest h

all_found_push : (ss : List Session) (t : Session) (fs : List Field) → AllByRecursion (Belongs ss) fs → AllByRecursion (Belongs (ss ++ t ∷ [])) fs
all_found_push ss t [] all = tt
all_found_push ss t (f ∷ fs) all = (found_push ss t f.session all.0, all_found_push ss t fs all.1)

pub all_put : (P : Field → Type 0) (test : Field → Bool) (x : Field) (fs : List Field) → P x → AllByRecursion P fs → AllByRecursion P (put_after test x fs)
all_put P test x [] p all = tt
all_put P test x (f ∷ fs) p all = go (test f) (all_put P test x fs p all.1)
  where
    go : (b : Bool) → AllByRecursion P (put_after test x fs) → AllByRecursion P (if b then f ∷ x ∷ fs else f ∷ put_after test x fs)
    go true rest = (all.0, (p, all.1))
    go false rest = (all.0, rest)

pub all_placed : (P : Field → Type 0) (after : ℕ) (x : Field) (fs : List Field) → P x → AllByRecursion P fs → AllByRecursion P (placed_field after x fs)
all_placed P after x fs p all = go (after == 0)
  where
    go : (b : Bool) → AllByRecursion P (if b then x ∷ fs else put_after (λ other. other.id == after) x fs)
    go true = (p, all)
    go false = all_put P (λ other. other.id == after) x fs p all

pub all_kept : (P : Field → Type 0) (test : Field → Bool) (fs : List Field) → AllByRecursion P fs → AllByRecursion P (filter test fs)
all_kept P test [] all = tt
all_kept P test (f ∷ fs) all = go (test f) (all_kept P test fs all.1)
  where
    go : (b : Bool) → AllByRecursion P (filter test fs) → AllByRecursion P (if b then f ∷ filter test fs else filter test fs)
    go true rest = (all.0, rest)
    go false rest = rest

pub all_changed : (P : Field → Type 0) (id : ℕ) (change : Field → Field) → ((f : Field) → P f → P (change f)) → (fs : List Field) → AllByRecursion P fs → AllByRecursion P (map (at_field id change) fs)
all_changed P id change keeps [] all = tt
all_changed P id change keeps (f ∷ fs) all = (go (f.id == id), all_changed P id change keeps fs all.1)
  where
    go : (b : Bool) → P (if b then change f else f)
    go true = keeps f all.0
    go false = all.0

pub found_in : (P : Field → Type 0) (fs : List Field) (id : ℕ) (x : Field) → AllByRecursion P fs → field_in fs id ≡ Some x → P x
found_in P [] id x all e = let no : None ≡ Some x = e in cc
found_in P (f ∷ fs) id x all e = go (f.id == id) e (found_in P fs id x all.1)
  where
    go : (b : Bool) → (if b then Some f else field_in fs id) ≡ Some x → (field_in fs id ≡ Some x → P x) → P x
    go true e rest = let same : f ≡ x = cc in subst P same all.0
    go false e rest = rest e

pub all_moved : (P : Field → Type 0) (id after : ℕ) (fs : List Field) (found : Option Field) → field_in fs id ≡ found → AllByRecursion P fs → AllByRecursion P (moved id after fs found)
all_moved P id after fs None e all = all
all_moved P id after fs (Some x) e all = all_placed P after x (fields_without id fs) (found_in P fs id x all e) (all_kept P (λ field. not (field.id == id)) fs all)

pub belong_one : (sheet : Contents) (o : Op) → first_refusal sheet o ≡ None → BelongToSessions sheet → BelongToSessions (edited sheet o)
belong_one sheet (op.Session name tab words) next all = all_found_push sheet.sessions (record { name = name; tab = tab; words = words }) sheet.fields all
belong_one sheet (op.New after session input) next all =
    all_placed (Belongs sheet.sessions) after (record { id = sheet.next; session = session; input = input; answer = None; lost = None }) sheet.fields
    (true_from_not (has_session sheet session) (none_applies (refusals sheet (op.New after session input)) next).0) all
belong_one sheet (op.Set id input) next all = all_changed (Belongs sheet.sessions) id (with_input input) (λ f p. p) sheet.fields all
belong_one sheet (op.Remove id) next all = all_kept (Belongs sheet.sessions) (λ field. not (field.id == id)) sheet.fields all
belong_one sheet (op.Move id after) next all = all_moved (Belongs sheet.sessions) id after sheet.fields (field_in sheet.fields id) refl all
belong_one sheet (op.Clear id) next all = all_changed (Belongs sheet.sessions) id (with_outcome None None) (λ f p. p) sheet.fields all
belong_one sheet (op.Answer id prompt output) next all = all_changed (Belongs sheet.sessions) id (with_outcome (Some (record { prompt = prompt; output = output })) None) (λ f p. p) sheet.fields all
belong_one sheet (op.Lost id reason) next all = all_changed (Belongs sheet.sessions) id (with_outcome None (Some reason)) (λ f p. p) sheet.fields all
belong_one sheet (op.Ids number) next all = all

belong_from : (before os : List Op) → Allowed before → BelongToSessions (sheet_of before) → AllowedFrom before os → BelongToSessions (sheet_of (before ++ os))
belong_from before [] front all allowed = subst (λ (os : List Op). BelongToSessions (sheet_of os)) (sym (append-nil before)) all
belong_from before (o ∷ os) front all allowed =
    let more : BelongToSessions (sheet_of (before ++ o ∷ [])) = subst BelongToSessions (sym (sheet_after before o front allowed.0)) (belong_one (sheet_of before) o allowed.0 all) in
    subst (λ (qs : List Op). BelongToSessions (sheet_of qs)) (append_assoc before (o ∷ []) os) (belong_from (before ++ o ∷ []) os (allowed_goes_on before o front allowed.0) more allowed.1)

pub fields_have_sessions : (os : List Op) → Allowed os → BelongToSessions (sheet_of os)
fields_have_sessions os allowed = belong_from [] os tt tt allowed
