-- What is owed to a journal, and written as a group.
use Rattle.std.specs.Prelude.{OnErr, OnOk}
use Rattle.std.proofs.Common.{◌≡◌, true, false, Some, Result, Ok, Err, inl, inr, ⊎_elim, ℕ, ◌+◌, List, [], ◌∷◌, ◌++◌, length, refl, sym, ◌∙◌, ap, subst, arith, IsTrue, length-append}
use Rattle.disk_model.specs.Disk.{DiskView, History, InModel, IsImage, Leaves, LeavesOnly, Rises, SameDisk, bytes_on}
use Rattle.disk_model.specs.declared.disk.DiskFault.{DiskFault}
use Rattle.disk_model.specs.inside.Moments.{weakens}
use Rattle.worksheet.specs.declared.op.Op.{Op}
use Rattle.worksheet.specs.Contents.{Contents, SheetView}
use Rattle.worksheet.specs.Ops.{sheet_of}
use Rattle.journal.specs.Area.{ArePayloads, IsPayload, end_of, record_of, records}
use Rattle.journal.specs.Kept.{BeforeOrAfter, BeforeOrAll, EitherStands, Fits, ImageStandsFor, JournalView, Keeps, active_of, other_of}
use Rattle.journal.specs.Limits.{longest_payload}
use Rattle.journal.specs.Owed.{GroupView, owed_disk}
use Rattle.journal.proofs.Bytes.{ArePayloads-push, records-push}
use Rattle.journal.proofs.Owing.{owed_are, owes_more, owes_moments, owes_other}
use Rattle.journal.proofs.Unique.{laid_out_once}
use Rattle.recovery.specs.Sheets.{IsSheetImage, IsSheetOf, KeepsOps, Makes, codes_of}
use Rattle.recovery.specs.declared.base.Base.{Base}
use Rattle.recovery.specs.declared.base.Base.TheVariants.{Open, Gathering, Closed}
use Rattle.recovery.specs.inside.Base.{AgainAnswers, IsBaseOf, MayOweIn, KeepsIn, KeepsSome, MayOwe, RealKeeps, disk_of, end_in, is_closed, owed_to, real_of, store_on}
use Rattle.recovery.proofs.Images.{all_images, same_sheet}
use Rattle.recovery.proofs.Kept.{inside, outside}

abbrev pub end_at : JournalView → List (List ℕ) → ℕ
end_at j owed = j.end + length (records owed)

abbrev pub IsSound : DiskView → Type 0
IsSound v = InModel v (IsImage v.history.now (bytes_on v))

-- One more is owed.
module _ (j : JournalView) (ps qs : List (List ℕ)) (p : List ℕ) (is : qs ≡ ps ++ p ∷ []) (owing : MayOwe j ps) (is_payload : IsPayload longest_payload p) where
  pub owed_ends : end_at j qs ≡ end_at j ps + 5 + length p
  owed_ends = omega (arith, ap (λ (l : List (List ℕ)). length (records l)) is, ap length (records-push ps p), length-append (records ps) (record_of p))

  pub owes_more_yet : Fits j.disk.room (end_at j ps) (length p) → MayOwe j qs
  owes_more_yet fits = record {
    fits = inr (omega (arith, fits.1, owed_ends));
    each = subst (λ (l : List (List ℕ)). ArePayloads longest_payload l) (sym is) (ArePayloads-push longest_payload ps p owing.each is_payload);
    ops = owing.ops;
  }

  module _ (sound : IsSound j.disk) where
    pub owed_other : InModel j.disk (other_of (bytes_on (owed_disk j.disk j.end qs)) ≡ other_of (bytes_on (owed_disk j.disk j.end ps)))
    owed_other model =
        let has = owing.ops model in
        subst (λ (l : List (List ℕ)). other_of (bytes_on (owed_disk j.disk j.end l)) ≡ other_of (bytes_on (owed_disk j.disk j.end ps))) (sym is)
        (owes_other j.disk j.end (codes_of has.0) ps (sound model) has.1 owing.each p is_payload)

    pub owed_ok : InModel j.disk ((payloads : List (List ℕ)) → Keeps (owed_disk j.disk j.end ps).history (end_at j ps) payloads → Keeps (owed_disk j.disk j.end qs).history (end_at j qs) (payloads ++ p ∷ []))
    owed_ok model payloads keeps =
        let has = owing.ops model in
        subst (λ (l : List (List ℕ)). Keeps (owed_disk j.disk j.end l).history (end_at j l) (payloads ++ p ∷ [])) (sym is)
        (owes_more j.disk j.end (codes_of has.0) ps (sound model) has.1 owing.each p is_payload (end_at j ps) payloads refl keeps)

    pub owed_moments : InModel j.disk ((payloads : List (List ℕ)) → Keeps (owed_disk j.disk j.end ps).history (end_at j ps) payloads
        → LeavesOnly (BeforeOrAfter (owed_disk j.disk j.end ps).history.now payloads p) (owed_disk j.disk j.end ps).history (owed_disk j.disk j.end qs).history)
    owed_moments model payloads keeps =
        let has = owing.ops model in
        subst (λ (l : List (List ℕ)). LeavesOnly (BeforeOrAfter (owed_disk j.disk j.end ps).history.now payloads p) (owed_disk j.disk j.end ps).history (owed_disk j.disk j.end l).history) (sym is)
        (owes_moments j.disk j.end (codes_of has.0) ps (sound model) has.1 owing.each p is_payload (end_at j ps) payloads refl keeps)

-- It is written.

-- where nothing is owed the disk is as it stands
pub owes_none : (v : DiskView) (end : ℕ) (payloads : List (List ℕ)) → payloads ≡ [] → owed_disk v end payloads ≡ v
owes_none v end payloads none = ap (λ (ps : List (List ℕ)). owed_disk v end ps) none

module _ (j : JournalView) (ps : List (List ℕ)) (owing : MayOwe j ps) (sound : IsSound j.disk) (model : IsTrue j.disk.keeps_model) where
  -- the disk as it is owed has these payloads, those of the disk as it stands and what is owed
  pub flushed_are : (before payloads : List (List ℕ)) → Keeps j.disk.history j.end before → Keeps (owed_disk j.disk j.end ps).history (end_at j ps) payloads → payloads ≡ before ++ ps
  flushed_are before payloads real keeps = owed_are j.disk j.end before ps (sound model) real owing.each (end_at j ps) payloads keeps

  pub flushed_keep : (h : History) (end : ℕ) → ((before : List (List ℕ)) → Keeps j.disk.history j.end before → Keeps h end (before ++ ps)) → (payloads : List (List ℕ)) → Keeps (owed_disk j.disk j.end ps).history (end_at j ps) payloads → Keeps h end payloads
  flushed_keep h end ok payloads keeps =
      let has = owing.ops model in
      subst (λ (l : List (List ℕ)). Keeps h end l) (sym (flushed_are (codes_of has.0) payloads has.1 keeps)) (ok (codes_of has.0) has.1)

  pub flushed_each : (h : History) → ((before : List (List ℕ)) → Keeps j.disk.history j.end before → LeavesOnly (BeforeOrAll j.disk.history.now before ps) j.disk.history h)
      → (before payloads : List (List ℕ)) → Keeps j.disk.history j.end before → Keeps (owed_disk j.disk j.end ps).history (end_at j ps) payloads → LeavesOnly (EitherStands before payloads) j.disk.history h
  flushed_each h each before payloads real keeps =
      weakens (BeforeOrAll j.disk.history.now before ps) (EitherStands before payloads) j.disk.history h
      (λ i stands. ⊎_elim (λ old. inl old) (λ all. inr (subst (λ (l : List (List ℕ)). ImageStandsFor i l) (sym (flushed_are before payloads real keeps)) all)) stands.0)
      (each before real)

pub keeps_back : (j : JournalView) (gs payloads : List (List ℕ)) → gs ≡ [] → Keeps (owed_disk j.disk j.end gs).history (end_at j gs) payloads → Keeps j.disk.history j.end payloads
keeps_back j gs payloads none keeps =
    subst (λ (n : ℕ). Keeps j.disk.history n payloads) (let same : j.end + length (records []) ≡ j.end = omega arith in same)
    (subst (λ (l : List (List ℕ)). Keeps (owed_disk j.disk j.end l).history (end_at j l) payloads) none keeps)

-- a journal to which nothing is owed is rewritten
pub again_flushed : {D : Type 0} (view : D → DiskView) (self : Base D) (j : JournalView) (g : GroupView) → self ≡ Gathering j g → owed_to self ≡ [] → (new : JournalView) (payloads : List (List ℕ)) → new.end ≡ end_of payloads
    → new.disk.faults ≡ j.disk.faults → InModel j.disk ((before : List (List ℕ)) → Keeps j.disk.history j.end before → Keeps new.disk.history new.end payloads) → AgainAnswers view self (Open new) payloads (Ok tt)
again_flushed {D = D} view self j g is flushed new payloads ends steady ok =
    let none : g.payloads ≡ [] = ap (λ (b : Base D). owed_to b) (sym is) ∙ flushed in
    subst (λ (b : Base D). AgainAnswers view b (Open new) payloads (Ok tt)) (sym is)
    (refl, ends, steady, λ model before keeps. ok model before (keeps_back j g.payloads before none keeps))

pub made_of : (ops : List Op) (sheet : Contents) → Makes ops sheet → Makes ops (sheet_of ops)
made_of ops sheet makes = record { typed = makes.typed; lengths = makes.lengths; allowed = makes.allowed; is = refl }

-- The base of a store.

pub some_of : {D : Type 0} (view : D → DiskView) (b : Base D) (sheet : Contents) → IsBaseOf view b sheet → is_closed b ≡ false → KeepsSome view b
some_of view b sheet holds opened model =
    let kept = holds.kept opened model in
    (kept.ops, kept.keeps, made_of kept.ops sheet kept.makes)

pub still_of : {D : Type 0} (view : D → DiskView) (b new : Base D) (sheet : Contents) → IsBaseOf view b sheet → is_closed new ≡ is_closed b → disk_of view new ≡ disk_of view b
    → ((payloads : List (List ℕ)) → KeepsIn b payloads → KeepsIn new payloads) → MayOweIn new → IsBaseOf view new sheet
still_of view b new sheet holds closed same keeps owing = record {
  made = holds.made;
  kept = λ opened model.
      let kept = holds.kept (sym closed ∙ opened) (subst (λ (v : DiskView). IsTrue v.keeps_model) same model) in
      record { ops = kept.ops; keeps = keeps (codes_of kept.ops) kept.keeps; makes = kept.makes };
  owing = owing;
}

same_model : {D : Type 0} (view : D → DiskView) (b : Base D) → (disk_of view b).keeps_model ≡ (real_of view b).keeps_model
same_model view (Open j) = refl
same_model view (Gathering j g) = refl
same_model view (Closed d) = refl

-- the base after a flush
pub flushed_base : {D : Type 0} (view : D → DiskView) (b new : Base D) (sheet : Contents) (r : Result Unit DiskFault) → IsBaseOf view b sheet → is_closed b ≡ false → SameDisk (real_of view b) (real_of view new)
    → OnOk r ((is_closed new ≡ is_closed b) × (end_in new ≡ end_in b) × ((real_of view new).faults ≡ (real_of view b).faults))
    → OnErr r ((is_closed new ≡ true) × Rises (real_of view b).faults (real_of view new).faults)
    → OnOk r (InModel (disk_of view b) ((payloads : List (List ℕ)) → KeepsIn b payloads → KeepsIn new payloads)) → MayOweIn new → IsBaseOf view new sheet
flushed_base view b new sheet (Ok u) holds opened same ok closed keeps owing = record {
  made = holds.made;
  kept = λ is_open model.
      let before = subst IsTrue (sym (same_model view b)) (subst IsTrue same.keeps_model (subst IsTrue (same_model view new) model)) in
      let kept = holds.kept opened before in
      record { ops = kept.ops; keeps = keeps before (codes_of kept.ops) kept.keeps; makes = kept.makes };
  owing = owing;
}
flushed_base view b new sheet (Err e) holds opened same ok closed keeps owing = record {
  made = holds.made;
  kept = λ is_open. absurd (let no : true ≡ false = sym closed.0 ∙ is_open in cc);
  owing = owing;
}

-- what the disk as it stands keeps
pub real_ops : {D : Type 0} (view : D → DiskView) (b : Base D) (sheet : Contents) → IsBaseOf view b sheet → is_closed b ≡ false → InModel (disk_of view b) ((ops : List Op) × RealKeeps b (codes_of ops) × Makes ops (sheet_of ops))
real_ops view (Open j) sheet holds opened model = some_of view (Open j) sheet holds opened model
real_ops view (Gathering j g) sheet holds opened model = holds.owing.ops model
real_ops view (Closed d) sheet holds opened model = absurd (let no : true ≡ false = opened in cc)

pub real_keeps : {D : Type 0} (view : D → DiskView) (b : Base D) (payloads : List (List ℕ)) → RealKeeps b payloads → (end : ℕ) × Keeps (real_of view b).history end payloads
real_keeps view (Open j) payloads keeps = (j.end, keeps)
real_keeps view (Gathering j g) payloads keeps = (j.end, keeps)
real_keeps view (Closed d) payloads keeps = absurd keeps

-- The sheets of a disk.

-- a disk whose images are of one sheet, and which keeps the payloads of ops, has the sheet of those
pub sheet_there : (v : DiskView) (end : ℕ) (ops : List Op) (before : Contents) → IsImage v.history.now (bytes_on v) → Keeps v.history end (codes_of ops) → Makes ops (sheet_of ops) → Leaves (IsSheetImage before) v.history.now → before ≡ sheet_of ops
sheet_there v end ops before sound keeps makes leaves =
    let image = leaves (bytes_on v) sound in
    same_sheet image.ops ops before (sheet_of ops) image.makes makes
    (laid_out_once longest_payload (omega arith) (active_of (bytes_on v)) (codes_of image.ops) (codes_of ops) image.stands.stands keeps.stands.stands)

pub either_sheet : (v : DiskView) (end : ℕ) (ops kept : List Op) (before after : Contents) (new : History) → IsImage v.history.now (bytes_on v) → Keeps v.history end (codes_of ops) → Makes ops (sheet_of ops) → Makes kept after
    → Leaves (IsSheetImage before) v.history.now → LeavesOnly (EitherStands (codes_of ops) (codes_of kept)) v.history new → LeavesOnly (IsSheetOf before after) v.history new
either_sheet v end ops kept before after new sound keeps makes makes_kept leaves run =
    let same = sheet_there v end ops before sound keeps makes leaves in
    weakens (EitherStands (codes_of ops) (codes_of kept)) (IsSheetOf before after) v.history new
    (λ i stands. ⊎_elim
    (λ old. inl (record { ops = ops; stands = old; makes = subst (λ (s : Contents). Makes ops s) (sym same) makes }))
    (λ all. inr (record { ops = kept; stands = all; makes = makes_kept })) stands) run

-- What is owed is dropped.

pub withdrawn_base : {D : Type 0} (view : D → DiskView) (b new : Base D) (sheet before : Contents) → IsBaseOf view b sheet → is_closed b ≡ false → ((ops : List Op) × Makes ops before) → IsSound (real_of view b)
    → InModel (real_of view b) (Leaves (IsSheetImage before) (real_of view b).history.now) → disk_of view new ≡ real_of view b → ((payloads : List (List ℕ)) → RealKeeps b payloads → KeepsIn new payloads) → MayOweIn new → IsBaseOf view new before
withdrawn_base view b new sheet before holds opened made sound images disk keeps owing = record {
  made = made;
  kept = λ is_open model.
      let here = subst (λ (v : DiskView). IsTrue v.keeps_model) disk model in
      let real = real_ops view b sheet holds opened (subst IsTrue (sym (same_model view b)) here) in
      let there = real_keeps view b (codes_of real.0) real.1 in
      let is = sheet_there (real_of view b) there.0 real.0 before (sound here) there.1 real.2 (images here) in
      record { ops = real.0; keeps = keeps (codes_of real.0) real.1; makes = subst (λ (s : Contents). Makes real.0 s) (sym is) real.2 };
  owing = owing;
}

-- A flush of a store.

pub flushed_keeps : {D : Type 0} (view : D → DiskView) (b new : Base D) (sheet : SheetView) (r : Result Unit DiskFault) → is_closed b ≡ false → OnOk r ((is_closed new ≡ is_closed b) × (end_in new ≡ end_in b) × ((real_of view new).faults ≡ (real_of view b).faults))
    → OnOk r (InModel (disk_of view b) ((payloads : List (List ℕ)) → KeepsIn b payloads → KeepsIn new payloads))
    → InModel (disk_of view b) ((ops : List Op) → KeepsOps (store_on view (Some b) sheet) ops → OnOk r (KeepsOps (store_on view (Some new) sheet) ops))
flushed_keeps view b new sheet (Ok u) opened ok keeps model ops kept = record {
  still_open = ok.0 ∙ opened;
  keeps = outside view new (codes_of ops) (keeps model (codes_of ops) (inside view b (codes_of ops) opened kept.keeps));
  makes = kept.makes;
}
flushed_keeps view b new sheet (Err e) opened ok keeps model ops kept = tt

pub flushed_moments : {D : Type 0} (view : D → DiskView) (b : Base D) (sheet : Contents) (new : History) → IsBaseOf view b sheet → is_closed b ≡ false → InModel (real_of view b) (IsImage (real_of view b).history.now (bytes_on (real_of view b)))
    → InModel (disk_of view b) (is_closed b ≡ false → (before payloads : List (List ℕ)) → RealKeeps b before → KeepsIn b payloads → LeavesOnly (EitherStands before payloads) (real_of view b).history new)
    → InModel (disk_of view b) ((before : Contents) → Leaves (IsSheetImage before) (real_of view b).history.now → LeavesOnly (IsSheetOf before sheet) (real_of view b).history new)
flushed_moments view b sheet new holds opened sound each model before leaves =
    let kept = holds.kept opened model in
    let real = real_ops view b sheet holds opened model in
    let there = real_keeps view b (codes_of real.0) real.1 in
    either_sheet (real_of view b) there.0 real.0 kept.ops before sheet new (sound (subst IsTrue (same_model view b) model)) there.1 real.2 kept.makes leaves
    (each model opened (codes_of real.0) (codes_of kept.ops) real.1 kept.keeps)

pub flushed_images : {D : Type 0} (view : D → DiskView) (b new : Base D) (sheet : Contents) (r : Result Unit DiskFault) → is_closed b ≡ false → IsBaseOf view new sheet
    → OnOk r ((is_closed new ≡ is_closed b) × (end_in new ≡ end_in b) × ((real_of view new).faults ≡ (real_of view b).faults))
    → OnOk r (InModel (disk_of view new) (Leaves (IsSheetImage sheet) (disk_of view new).history.now))
flushed_images view b new sheet (Ok u) opened holds ok = λ model. all_images view new sheet (holds.kept (ok.0 ∙ opened) model)
flushed_images view b new sheet (Err e) opened holds ok = tt

same_room : {D : Type 0} (view : D → DiskView) (b : Base D) → (disk_of view b).room ≡ (real_of view b).room
same_room view (Open j) = refl
same_room view (Gathering j g) = refl
same_room view (Closed d) = refl

same_faults : {D : Type 0} (view : D → DiskView) (b : Base D) → (disk_of view b).faults ≡ (real_of view b).faults
same_faults view (Open j) = refl
same_faults view (Gathering j g) = refl
same_faults view (Closed d) = refl

pub flushed_disk : {D : Type 0} (view : D → DiskView) (b new : Base D) → SameDisk (real_of view b) (real_of view new) → SameDisk (disk_of view b) (disk_of view new)
flushed_disk view b new same = record {
  room = same_room view new ∙ same.room ∙ sym (same_room view b);
  keeps_model = same_model view new ∙ same.keeps_model ∙ sym (same_model view b);
  later = omega (arith, same_faults view new, same_faults view b, same.later);
}
