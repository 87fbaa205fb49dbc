-- The sessions in which a field lacks an answer.
use Rattle.std.proofs.Common.{◌≡◌, ◌||◌, ◌&&◌, ℕ, subst, Bool, true, false, List, [], ◌∷◌, ◌++◌, refl, ap, sym, ◌∙◌}
use Rattle.std.specs.Prelude.{cond}
use Rattle.std.specs.List.{list_any}
use Rattle.std.specs.Str.{bytes_eq}
use Rattle.std.proofs.Math.Bool.{or-false, or-true, or_assoc}
use Rattle.std.proofs.lemmas.List.Folds.{list_any-append}
use Rattle.std.proofs.lemmas.Slice.Eq.{bytes_eq-Decides}
use Rattle.worksheet.specs.declared.field.Field.{Field}
use Rattle.worksheet.specs.declared.field.Session.{Session}
use Rattle.worksheet.specs.Contents.{Contents}
use Rattle.evaluation.specs.Meant.{is_changed, is_lacking}
use Rattle.evaluation.specs.inside.Choosing.{AreChanged, is_in, with_session, with_session_if}

-- one of these fields is of this session and lacks an answer
abbrev pub lacks_one : List Session → List ℕ → List Field → Bool
lacks_one sessions session fields = list_any (λ field. is_lacking sessions field && bytes_eq field.session session) fields

same_as : (sessions : List (List ℕ)) (one session : List ℕ) (b : Bool) → bytes_eq one session ≡ b → is_in sessions one ≡ true → is_in sessions session ≡ (is_in sessions session || b)
same_as sessions one session true e there =
    subst (λ (x : List ℕ). is_in sessions x ≡ true) ((bytes_eq-Decides one session).0 e) there ∙ sym (or-true (is_in sessions session))
same_as sessions one session false e there = sym (or-false (is_in sessions session))

put_if_new : (sessions : List (List ℕ)) (one session : List ℕ) (b : Bool) → is_in sessions one ≡ b → is_in (cond b sessions (sessions ++ one ∷ [])) session ≡ (is_in sessions session || bytes_eq one session)
put_if_new sessions one session true there = same_as sessions one session (bytes_eq one session) refl there
put_if_new sessions one session false new =
    list_any-append (λ (x : List ℕ). bytes_eq x session) sessions (one ∷ []) ∙ ap (λ (b : Bool). is_in sessions session || b) (or-false (bytes_eq one session))

in_with : (sessions : List (List ℕ)) (one session : List ℕ) → is_in (with_session sessions one) session ≡ (is_in sessions session || bytes_eq one session)
in_with sessions one session = put_if_new sessions one session (is_in sessions one) refl

one_changed : (b : Bool) (sessions : List (List ℕ)) (one session : List ℕ) (others : Bool)
    → (is_in (with_session_if b sessions one) session || others) ≡ (is_in sessions session || (b && bytes_eq one session || others))
one_changed true sessions one session others =
    ap (λ (x : Bool). x || others) (in_with sessions one session) ∙ or_assoc (is_in sessions session) (bytes_eq one session) others
one_changed false sessions one session others = refl

-- the sessions that a front of the fields shows to be changed, and these fields are to come
pub record ChangedSoFar (sheet : Contents) (left : List Field) (sessions : List (List ℕ)) : Type 0 where
  pub each : (session : List ℕ) → (is_in sessions session || lacks_one sheet.sessions session left) ≡ is_changed sheet session

pub none_changed : (sheet : Contents) (left : List Field) (sessions : List (List ℕ)) → sessions ≡ [] → left ≡ sheet.fields → ChangedSoFar sheet left sessions
none_changed sheet left sessions none e = record {
  each = λ session. ap (λ (x : List (List ℕ)). is_in x session || lacks_one sheet.sessions session left) none ∙ ap (lacks_one sheet.sessions session) e;
}

pub more_changed : (sheet : Contents) (left : List Field) (field : Field) (others : List Field) (sessions more : List (List ℕ)) → left ≡ field ∷ others → ChangedSoFar sheet left sessions
    → more ≡ with_session_if (is_lacking sheet.sessions field) sessions field.session → ChangedSoFar sheet others more
more_changed sheet left field others sessions more e so is = record {
  each = λ session.
      ap (λ (x : List (List ℕ)). is_in x session || lacks_one sheet.sessions session others) is
      ∙ one_changed (is_lacking sheet.sessions field) sessions field.session session (lacks_one sheet.sessions session others)
      ∙ ap (λ (fields : List Field). is_in sessions session || lacks_one sheet.sessions session fields) (sym e) ∙ so.each session;
}

pub all_changed : (sheet : Contents) (left : List Field) (sessions : List (List ℕ)) → left ≡ [] → ChangedSoFar sheet left sessions → AreChanged sheet sessions
all_changed sheet left sessions e so = record {
  each = λ session.
      sym (or-false (is_in sessions session)) ∙ ap (λ (fields : List Field). is_in sessions session || lacks_one sheet.sessions session fields) (sym e) ∙ so.each session;
}

pub ruleset change_steps = (none_changed, more_changed, all_changed)
