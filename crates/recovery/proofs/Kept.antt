-- The ops that a store keeps.
use Rattle.std.proofs.Common.{◌≡◌, inl, inr, ⊎_elim, ℕ, false, List, [], ◌∷◌, ◌++◌, ◌+◌, ◌≤◌, arith, length, Option, Some, None, refl, sym, ap, ◌∙◌, subst}
use Rattle.disk_model.specs.Disk.{DiskView, History, InModel, Leaves, LeavesOnly}
use Rattle.disk_model.specs.inside.Moments.{started, weakens}
use Rattle.worksheet.specs.declared.op.Op.{Op}
use Rattle.worksheet.specs.Contents.{Contents, SheetView}
use Rattle.worksheet.specs.Ops.{sheet_of}
use Rattle.worksheet.specs.Checks.{first_refusal}
use Rattle.journal.specs.Area.{records}
use Rattle.journal.specs.inside.Standing.{keeps_images}
use Rattle.journal.specs.Kept.{Fits, ImageStandsFor, JournalView, Keeps, BeforeOrAfter}
use Rattle.journal.specs.Limits.{longest_payload}
use Rattle.journal.specs.Owed.{owed_disk}
use Rattle.recovery.specs.Code.{code_of, IsPayloadOf}
use Rattle.recovery.specs.Sheets.{StoreView, codes_of, Makes, HasPlace, IsSheetImage, IsStore, KeepsOps, SameStore, StandsWithOrWithout}
use Rattle.recovery.specs.declared.base.Base.{Base}
use Rattle.recovery.specs.declared.base.Base.TheVariants.{Open, Gathering, Closed}
use Rattle.recovery.specs.inside.Base.{disk_of, disk_in, end_in, end_of_base, gathers, gathers_in, is_closed, is_closed_store, owed_in, owed_to, real_in, real_of, start_in, start_of_base, KeepsIn, KeepsSheet, IsStoreOf, store_on}
use Rattle.recovery.specs.inside.Taken.{TakesAll}
use Rattle.recovery.proofs.Allowed.{makes_more}
use Rattle.recovery.proofs.Images.{all_images, made_in}
use Rattle.recovery.proofs.Taking.{codes_push}

-- what a store's disk keeps is what its open base keeps
pub inside : {D : Type 0} (view : D → DiskView) (base : Base D) (payloads : List (List ℕ)) → is_closed base ≡ false → Keeps (disk_of view base).history (end_in base) payloads → KeepsIn base payloads
inside view (Open journal) payloads opened keeps = keeps
inside view (Gathering journal group) payloads opened keeps = keeps
inside view (Closed disk) payloads opened keeps = absurd cc

pub outside : {D : Type 0} (view : D → DiskView) (base : Base D) (payloads : List (List ℕ)) → KeepsIn base payloads → Keeps (disk_of view base).history (end_in base) payloads
outside view (Open journal) payloads keeps = keeps
outside view (Gathering journal group) payloads keeps = keeps
outside view (Closed disk) payloads keeps = absurd keeps

-- a journal whose payloads were all taken keeps the sheet that they made
pub keeps_taken : {D : Type 0} (journal : JournalView) (sheet : Contents) (payloads : List (List ℕ)) → TakesAll payloads journal sheet → KeepsSheet {D = D} (Open journal) sheet
keeps_taken journal sheet payloads taken = record {
  ops = taken.ops;
  keeps = subst (λ (l : List (List ℕ)). Keeps journal.disk.history journal.end l) taken.are taken.keeps;
  makes = taken.makes;
}

-- an open store keeps some ops
pub some_kept : {D : Type 0} (view : D → DiskView) (base : Option (Base D)) (sheet : SheetView) → IsStoreOf view base sheet.contents
    → InModel (disk_in view base) (is_closed_store base ≡ false → (ops : List Op) × KeepsOps (store_on view base sheet) ops)
some_kept view None sheet holds model opened = absurd holds
some_kept view (Some base) sheet holds model opened =
    let kept = holds.kept opened model in
    (kept.ops, record { still_open = opened; keeps = outside view base (codes_of kept.ops) kept.keeps; makes = kept.makes })

-- and a crash leaves images of its worksheet alone
some_images : {D : Type 0} (view : D → DiskView) (base : Option (Base D)) (sheet : SheetView) → IsStoreOf view base sheet.contents
    → InModel (disk_in view base) (is_closed_store base ≡ false → Leaves (IsSheetImage sheet.contents) (disk_in view base).history.now)
some_images view None sheet holds model opened = absurd holds
some_images view (Some base) sheet holds model opened = all_images view base sheet.contents (holds.kept opened model)

-- where nothing is owed the disk is as it stands
owes_none : (v : DiskView) (end : ℕ) (payloads : List (List ℕ)) → payloads ≡ [] → v ≡ owed_disk v end payloads
owes_none v end payloads none = ap (λ (ps : List (List ℕ)). owed_disk v end ps) (sym none)

plain_in : {D : Type 0} (view : D → DiskView) (base : Option (Base D)) → owed_in base ≡ [] → real_in view base ≡ disk_in view base
plain_in view None none = refl
plain_in view (Some (Open journal)) none = refl
plain_in view (Some (Gathering journal group)) none = owes_none journal.disk journal.end group.payloads none
plain_in view (Some (Closed disk)) none = refl

-- and ends there
start_is : (end : ℕ) (payloads : List (List ℕ)) → payloads ≡ [] → end ≡ end + length (records payloads)
start_is end payloads none = omega (arith, ap (λ (ps : List (List ℕ)). length (records ps)) none)

started_in : {D : Type 0} (base : Option (Base D)) → owed_in base ≡ [] → start_of_base base ≡ end_of_base base
started_in None none = refl
started_in (Some (Open journal)) none = refl
started_in (Some (Gathering journal group)) none = start_is journal.end group.payloads none
started_in (Some (Closed disk)) none = refl

pub written_in : {D : Type 0} (view : D → DiskView) (base : Option (Base D)) → gathers_in base ≡ false → (owed_in base ≡ []) × (real_in view base ≡ disk_in view base)
written_in view None at_once = (refl, refl)
written_in view (Some (Open journal)) at_once = (refl, refl)
written_in view (Some (Gathering journal group)) at_once = absurd cc
written_in view (Some (Closed disk)) at_once = (refl, refl)

pub is_store : {D : Type 0} (view : D → DiskView) (base : Option (Base D)) (sheet : SheetView) → IsStoreOf view base sheet.contents → IsStore (store_on view base sheet)
is_store view base sheet holds = record {
  made = made_in view base sheet.contents holds;
  kept = some_kept view base sheet holds;
  images = some_images view base sheet holds;
  none_owed = plain_in view base;
  started = started_in base;
  written = written_in view base;
}

-- where memory was made ready, nothing else of a store has changed
pub ready_same : {D : Type 0} (view : D → DiskView) (at : Option (Base D)) (base new : Base D) (sheet after : SheetView) → at ≡ Some base → after.contents ≡ sheet.contents
    → disk_of view new ≡ disk_of view base → end_in new ≡ end_in base → is_closed new ≡ is_closed base → real_of view new ≡ real_of view base → owed_to new ≡ owed_to base → gathers new ≡ gathers base
    → start_in new ≡ start_in base
    → SameStore (store_on view at sheet) (store_on view (Some new) after)
ready_same {D = D} view at base new sheet after is contents disk end closed real owed gathers_still start =
    subst (λ (b : Option (Base D)). SameStore (store_on view b sheet) (store_on view (Some new) after)) (sym is)
    (record { disk = disk; end = end; contents = contents; closed = closed; real = real; owed = owed; gathers = gathers_still; start = start })

-- what fits once memory was made ready, fitted before
pub place_before : (old new : StoreView) (n : ℕ) → SameStore old new → HasPlace new n → HasPlace old n
place_before old new n same place = (
  sym same.closed ∙ place.0,
  subst (λ (d : DiskView). Fits d.room old.end n) same.disk (subst (λ (end : ℕ). Fits new.disk.room end n) same.end place.1),
)

-- memory that was made ready changes nothing of it
pub keeps_still : (old new : StoreView) (ops : List Op) → SameStore old new → KeepsOps old ops → KeepsOps new ops
keeps_still old new ops same kept = record {
  still_open = same.closed ∙ kept.still_open;
  keeps = subst (λ (d : DiskView). Keeps d.history new.end (codes_of ops)) (sym same.disk) (subst (λ (n : ℕ). Keeps old.disk.history n (codes_of ops)) (sym same.end) kept.keeps);
  makes = subst (λ (s : Contents). Makes ops s) (sym same.contents) kept.makes;
}

-- and adds no moment
pub stays_kept : (old new : StoreView) (o : Op) (ops : List Op) → SameStore old new → KeepsOps old ops → LeavesOnly (StandsWithOrWithout ops o) old.disk.history new.disk.history
stays_kept old new o ops same kept =
    subst (λ (d : DiskView). LeavesOnly (StandsWithOrWithout ops o) old.disk.history d.history) (sym same.disk)
    (started (StandsWithOrWithout ops o) old.disk.history
    (λ i image. inl (keeps_images old.disk.history old.end (codes_of ops) kept.keeps i image)))

module _ {D : Type 0} (view : D → DiskView) (base : Base D) (sheet : SheetView) (o : Op) (payload : List ℕ) (own : IsPayloadOf o payload) where
  codes_more : (ops : List Op) → codes_of ops ++ payload ∷ [] ≡ codes_of (ops ++ o ∷ [])
  codes_more ops = ap (λ (b : List ℕ). codes_of ops ++ b ∷ []) own.is ∙ sym (codes_push ops o)

  -- at every moment of an append the payloads are those of before, or these and the op's
  pub payload_moments : (new : History)
      → InModel (disk_of view base) ((payloads : List (List ℕ)) → KeepsIn base payloads → LeavesOnly (BeforeOrAfter (disk_of view base).history.now payloads payload) (disk_of view base).history new)
      → InModel (disk_of view base) ((ops : List Op) → KeepsOps (store_on view (Some base) sheet) ops → LeavesOnly (StandsWithOrWithout ops o) (disk_of view base).history new)
  payload_moments new each model ops kept =
      weakens (BeforeOrAfter (disk_of view base).history.now (codes_of ops) payload) (StandsWithOrWithout ops o) (disk_of view base).history new
      (λ i stands. ⊎_elim (λ before. inl before) (λ following. inr (subst (λ (l : List (List ℕ)). ImageStandsFor i l) (codes_more ops) following)) stands.0)
      (each model (codes_of ops) (inside view base (codes_of ops) kept.still_open kept.keeps))

  -- and at Ok the latter
  pub keeps_more : (new : Base D) (after : SheetView) → length (code_of o) ≤ longest_payload → first_refusal sheet.contents o ≡ None → is_closed new ≡ false
      → InModel (disk_of view base) ((payloads : List (List ℕ)) → KeepsIn base payloads → KeepsIn new (payloads ++ payload ∷ []))
      → ((ops : List Op) → sheet.contents ≡ sheet_of ops → after.contents ≡ sheet_of (ops ++ o ∷ []))
      → InModel (disk_of view base) ((ops : List Op) → KeepsOps (store_on view (Some base) sheet) ops → KeepsOps (store_on view (Some new) after) (ops ++ o ∷ []))
  keeps_more new after short next opened ok applied model ops kept = record {
    still_open = opened;
    keeps = outside view new (codes_of (ops ++ o ∷ [])) (subst (λ (l : List (List ℕ)). KeepsIn new l) (codes_more ops) (ok model (codes_of ops) (inside view base (codes_of ops) kept.still_open kept.keeps)));
    makes = makes_more ops o sheet.contents after.contents kept.makes own.typed short next (applied ops kept.makes.is);
  }
