-- The images of a store.
use Rattle.std.proofs.Common.{◌≡◌, ◌+◌, ◌≤◌, min, arith, inl, inr, ⊎_elim, ℕ, true, false, append-nil, List, [], ◌∷◌, ◌++◌, length, Option, Some, None, Result, Ok, Err, refl, sym, ap, ◌∙◌, subst, IsTrue, append_assoc}
use Rattle.std.specs.Prelude.{is_err, OnOk}
use Rattle.std.specs.List.{AllByRecursion}
use Rattle.std.specs.Result.{result_err}
use Rattle.disk_model.specs.Disk.{Image, DiskState, DiskView, History, InModel, SameDisk, Leaves, LeavesOnly}
use Rattle.disk_model.specs.inside.Moments.{started, weakens}
use Rattle.worksheet.specs.declared.op.Op.{Op}
use Rattle.worksheet.specs.declared.refusal.Refusal.{Refusal}
use Rattle.worksheet.specs.Contents.{Contents}
use Rattle.worksheet.specs.Ops.{sheet_of}
use Rattle.worksheet.specs.Checks.{Allowed, AllowedFrom, first_refusal}
use Rattle.worksheet.proofs.Existence.{allowed_goes_on}
use Rattle.journal.specs.Kept.{Fits, ImageStandsFor, BeforeOrAfter, OtherUntouched, active_of}
use Rattle.journal.specs.inside.Standing.{keeps_images}
use Rattle.journal.specs.Area.{records}
use Rattle.journal.specs.Limits.{longest_payload}
use Rattle.journal.specs.Owed.{owed_disk}
use Rattle.journal.specs.declared.opening.OpenCause.{OpenCause}
use Rattle.journal.specs.declared.opening.OpenCause.TheVariants as opens
use Rattle.journal.specs.Open.{IsPassing}
use Rattle.journal.specs.Laws.{OneList}
use Rattle.recovery.specs.Code.{code_of, longest_reported, IsTyped, IsPayloadOf}
use Rattle.recovery.specs.Sheets.{codes_of, Makes, IsSheetImage, IsEither}
use Rattle.recovery.specs.inside.Taken.{RefusesFrom}
use Rattle.recovery.specs.declared.base.Base.{Base}
use Rattle.recovery.specs.declared.base.Base.TheVariants.{Open, Gathering, Closed}
use Rattle.recovery.specs.inside.Base.{disk_of, is_closed, KeepsIn, KeepsSheet, IsBaseOf, MayOweIn, IsStoreOf}
use Rattle.recovery.specs.Laws.{OneListOfOps, OneSheet}
use Rattle.recovery.proofs.Unique.{one_op}
use Rattle.worksheet.proofs.NextLaws.{same_next}
use Rattle.recovery.proofs.Allowed.{allowed_have_code, makes_more}
use Rattle.recovery.proofs.Taking.{codes_push}

-- a check that refuses doesn't allow
pub refuses : (checked : Result Unit Refusal) (first : Option Refusal) → result_err checked ≡ first → is_err checked ≡ true → first ≡ None → ⊥
refuses (Ok u) first is refused none = cc
refuses (Err r) first is refused none = let no : Some r ≡ None = is ∙ none in absurd cc

-- and one that doesn't allows
pub allows : (checked : Result Unit Refusal) (first : Option Refusal) → result_err checked ≡ first → is_err checked ≡ false → first ≡ None
allows (Ok u) first is passed = sym is
allows (Err r) first is passed = cc

-- what holds at Ok
pub on_ok : {T E : Type 0} {P : Type 0} (result : Result T E) (x : T) → result ≡ Ok x → OnOk result P → P
on_ok (Ok y) x is holds = holds
on_ok (Err e) x is holds = cc

-- what fits by a capped length fits
pub fits_uncapped : (room end n : ℕ) → Fits room end (min n longest_reported) → Fits room end n
fits_uncapped room end n fits =
    let short : n ≤ longest_payload = omega (arith, fits.0) in
    (short, omega (arith, fits.1, short))

pub made_in : {D : Type 0} (view : D → DiskView) (b : Option (Base D)) (sheet : Contents) → IsStoreOf view b sheet → (ops : List Op) × Makes ops sheet
made_in view None sheet holds = absurd holds
made_in view (Some base) sheet holds = holds.made

-- each image of what a journal keeps is one of its sheet
pub all_images : {D : Type 0} (view : D → DiskView) (base : Base D) (sheet : Contents) → KeepsSheet base sheet → Leaves (IsSheetImage sheet) (disk_of view base).history.now
all_images view (Open journal) sheet kept i image = record {
  ops = kept.ops;
  stands = keeps_images journal.disk.history journal.end (codes_of kept.ops) kept.keeps i image;
  makes = kept.makes;
}
all_images view (Gathering journal group) sheet kept i image = record {
  ops = kept.ops;
  stands = keeps_images (owed_disk journal.disk journal.end group.payloads).history (journal.end + length (records group.payloads)) (codes_of kept.ops) kept.keeps i image;
  makes = kept.makes;
}
all_images view (Closed disk) sheet kept i image = absurd kept.keeps

module _ {D : Type 0} (view : D → DiskView) (base : Base D) (sheet : Contents) (o : Op) (payload : List ℕ)
    (holds : IsBaseOf view base sheet) (own : IsPayloadOf o payload) (short : length (code_of o) ≤ longest_payload) (next : first_refusal sheet o ≡ None) (opened : is_closed base ≡ false) where
  codes_more : (ops : List Op) → codes_of ops ++ payload ∷ [] ≡ codes_of (ops ++ o ∷ [])
  codes_more ops = ap (λ (b : List ℕ). codes_of ops ++ b ∷ []) own.is ∙ sym (codes_push ops o)

  either : (s : DiskState) (kept : KeepsSheet base sheet) (ops : List Op) → sheet ≡ sheet_of ops → (i : Image) → BeforeOrAfter s (codes_of kept.ops) payload i → IsEither ops o i
  either s kept ops is i stands =
      let allowed = subst (λ (c : Contents). first_refusal c o ≡ None) kept.makes.is next in
      let after : sheet_of (ops ++ o ∷ []) ≡ sheet_of (kept.ops ++ o ∷ []) = sym (same_next kept.ops ops o kept.makes.allowed (sym kept.makes.is ∙ is) allowed) in
      ⊎_elim
      (λ before. inl (record { ops = kept.ops; stands = before; makes = record { typed = kept.makes.typed; lengths = kept.makes.lengths; allowed = kept.makes.allowed; is = sym is ∙ kept.makes.is } }))
      (λ following. inr (record {
        ops = kept.ops ++ o ∷ [];
        stands = subst (λ (l : List (List ℕ)). ImageStandsFor i l) (codes_more kept.ops) following;
        makes = makes_more kept.ops o sheet (sheet_of (ops ++ o ∷ [])) kept.makes own.typed short next after;
      }))
      stands.0

  -- at every moment the sheet is that of before, or this with the op
  pub moments : (new : History)
      → InModel (disk_of view base) ((payloads : List (List ℕ)) → KeepsIn base payloads → LeavesOnly (BeforeOrAfter (disk_of view base).history.now payloads payload) (disk_of view base).history new)
      → InModel (disk_of view base) ((ops : List Op) → sheet ≡ sheet_of ops → LeavesOnly (IsEither ops o) (disk_of view base).history new)
  moments new each model ops is =
      let kept = holds.kept opened model in
      weakens _ (IsEither ops o) (disk_of view base).history new (either (disk_of view base).history.now kept ops is) (each model (codes_of kept.ops) kept.keeps)

  -- and the area that isn't active is that of before
  pub others : (new : History)
      → InModel (disk_of view base) ((payloads : List (List ℕ)) → KeepsIn base payloads → LeavesOnly (BeforeOrAfter (disk_of view base).history.now payloads payload) (disk_of view base).history new)
      → InModel (disk_of view base) (LeavesOnly (OtherUntouched (disk_of view base).history.now) (disk_of view base).history new)
  others new each model =
      let kept = holds.kept opened model in
      weakens _ (OtherUntouched (disk_of view base).history.now) (disk_of view base).history new (λ i stands. stands.1) (each model (codes_of kept.ops) kept.keeps)

  -- and at Ok it is this with the op
  pub committed : (new : Base D) (after : Contents) → SameDisk (disk_of view base) (disk_of view new)
      → InModel (disk_of view base) ((payloads : List (List ℕ)) → KeepsIn base payloads → KeepsIn new (payloads ++ payload ∷ []))
      → ((ops : List Op) → sheet ≡ sheet_of ops → after ≡ sheet_of (ops ++ o ∷ []))
      → MayOweIn new
      → IsBaseOf view new after
  committed new after same ok applied owing = record {
    owing = owing;
    made = (holds.made.0 ++ o ∷ [], makes_more holds.made.0 o sheet after holds.made.1 own.typed short next (applied holds.made.0 holds.made.1.is));
    kept = λ is_open model.
        let before = subst IsTrue same.keeps_model model in
        let kept = holds.kept opened before in
        record {
          ops = kept.ops ++ o ∷ [];
          keeps = subst (λ (l : List (List ℕ)). KeepsIn new l) (codes_more kept.ops) (ok before (codes_of kept.ops) kept.keeps);
          makes = makes_more kept.ops o sheet after kept.makes own.typed short next (applied kept.ops kept.makes.is);
        };
  }

-- ops of the same payloads are the same
pub head_is : (x y : List ℕ) (xs ys : List (List ℕ)) → x ∷ xs ≡ y ∷ ys → (x ≡ y) × (xs ≡ ys)
head_is x y xs ys e = (cc, cc)

pub same_op : (before : List Op) (a b : Op) → Allowed before → first_refusal (sheet_of before) a ≡ None → first_refusal (sheet_of before) b ≡ None → IsTyped a → IsTyped b → code_of a ≡ code_of b → a ≡ b
same_op before a b allowed next then ta tb same =
    one_op a b (code_of a) (record { typed = ta; fits = allowed_have_code before a allowed next; is = refl }) (record { typed = tb; fits = allowed_have_code before b allowed then; is = same })

same_ops_from : (before a b : List Op) → Allowed before → AllowedFrom before a → AllowedFrom before b → AllByRecursion IsTyped a → AllByRecursion IsTyped b → codes_of a ≡ codes_of b → a ≡ b
same_ops_from before [] [] allowed p q ta tb same = refl
same_ops_from before [] (y ∷ b) allowed p q ta tb same = absurd cc
same_ops_from before (x ∷ a) [] allowed p q ta tb same = absurd cc
same_ops_from before (x ∷ a) (y ∷ b) allowed p q ta tb same =
    let parts = head_is (code_of x) (code_of y) (codes_of a) (codes_of b) same in
    let first : x ≡ y = same_op before x y allowed p.0 q.0 ta.0 tb.0 parts.0 in
    let following : AllowedFrom (before ++ x ∷ []) b = subst (λ (z : Op). AllowedFrom (before ++ z ∷ []) b) (sym first) q.1 in
    ap (λ (z : Op). z ∷ a) first ∙ ap (λ (l : List Op). y ∷ l) (same_ops_from (before ++ x ∷ []) a b (allowed_goes_on before x allowed p.0) p.1 following ta.1 tb.1 parts.1)

pub one_list_of_ops : OneList → OneListOfOps
one_list_of_ops lists a b s t i p q stands other = same_ops_from [] a b tt p.allowed q.allowed p.typed q.typed (lists longest_payload (omega arith) (active_of i) (codes_of a) (codes_of b) stands.stands other.stands)

pub same_sheet : (a b : List Op) (s t : Contents) → Makes a s → Makes b t → codes_of a ≡ codes_of b → s ≡ t
same_sheet a b s t p q same = p.is ∙ ap sheet_of (same_ops_from [] a b tt p.allowed q.allowed p.typed q.typed same) ∙ sym q.is

pub one_sheet : OneList → OneSheet
one_sheet lists s t i p q = same_sheet p.ops q.ops s t p.makes q.makes (lists longest_payload (omega arith) (active_of i) (codes_of p.ops) (codes_of q.ops) p.stands.stands q.stands.stands)

-- no payload of allowed ops is refused
taken_from : (before ops taken : List Op) (payload : List ℕ) (more : List (List ℕ)) → Allowed before → AllowedFrom before ops → AllowedFrom before taken → AllByRecursion IsTyped ops → AllByRecursion IsTyped taken
    → codes_of taken ≡ codes_of ops ++ payload ∷ more → ((o : Op) → IsPayloadOf o payload → first_refusal (sheet_of (before ++ ops)) o ≡ None → ⊥) → ⊥
taken_from before [] [] payload more allowed p q ta tb same wrong = cc
taken_from before [] (y ∷ taken) payload more allowed p q ta tb same wrong =
    let parts = head_is (code_of y) payload (codes_of taken) more same in
    wrong y (record { typed = tb.0; fits = allowed_have_code before y allowed q.0; is = sym parts.0 }) (subst (λ (l : List Op). first_refusal (sheet_of l) y ≡ None) (sym (append-nil before)) q.0)
taken_from before (x ∷ ops) [] payload more allowed p q ta tb same wrong = cc
taken_from before (x ∷ ops) (y ∷ taken) payload more allowed p q ta tb same wrong =
    let parts = head_is (code_of y) (code_of x) (codes_of taken) (codes_of ops ++ payload ∷ more) same in
    let first : y ≡ x = same_op before y x allowed q.0 p.0 tb.0 ta.0 parts.0 in
    let following : AllowedFrom (before ++ x ∷ []) taken = subst (λ (z : Op). AllowedFrom (before ++ z ∷ []) taken) first q.1 in
    taken_from (before ++ x ∷ []) ops taken payload more (allowed_goes_on before x allowed p.0) p.1 following ta.1 tb.1 parts.1
    (λ o own next. wrong o own (subst (λ (l : List Op). first_refusal (sheet_of l) o ≡ None) (append_assoc before (x ∷ []) ops) next))

pub not_refused : (ops : List Op) (sheet : Contents) (cause : OpenCause) → Makes ops sheet → RefusesFrom (codes_of ops) cause → IsPassing cause
not_refused ops sheet (opens.Damaged gate) makes refused = taken_from [] refused.ops ops refused.payload refused.more tt refused.makes.allowed makes.allowed refused.makes.typed makes.typed refused.is refused.wrong
not_refused ops sheet opens.NotASheet makes refused = refused
not_refused ops sheet opens.Disk makes refused = tt
not_refused ops sheet opens.OutOfMemory makes refused = tt

-- where nothing has changed each image is still one of the sheet
pub stays_either : (old new : DiskView) (sheet : Contents) (o : Op) → new ≡ old → Leaves (IsSheetImage sheet) old.history.now → (ops : List Op) → sheet ≡ sheet_of ops → LeavesOnly (IsEither ops o) old.history new.history
stays_either old new sheet o same images ops is =
    subst (λ (d : DiskView). LeavesOnly (IsEither ops o) old.history d.history) (sym same)
    (started (IsEither ops o) old.history (λ i image. inl (subst (λ (s : Contents). IsSheetImage s i) is (images i image))))

-- and the area that isn't active that of before
pub stays_other : (old new : DiskView) → new ≡ old → LeavesOnly (OtherUntouched old.history.now) old.history new.history
stays_other old new same =
    subst (λ (d : DiskView). LeavesOnly (OtherUntouched old.history.now) old.history d.history) (sym same)
    (started (OtherUntouched old.history.now) old.history (λ i image. (i, image, refl)))
