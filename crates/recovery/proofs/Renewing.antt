-- A store whose worksheet is rewritten.
use Rattle.std.proofs.Common.{◌≡◌, ⊎_elim, ℕ, true, false, List, Some, Result, Ok, Err, refl, sym, ap, ◌∙◌, subst, IsTrue, arith}
use Rattle.std.specs.List.{AllByRecursion}
use Rattle.disk_model.specs.Disk.{DiskView, InModel, LeavesOnly, SameDisk}
use Rattle.disk_model.specs.inside.Moments.{started, weakens}
use Rattle.worksheet.specs.declared.op.Op.{Op}
use Rattle.worksheet.specs.Contents.{Contents, SheetView}
use Rattle.worksheet.specs.Laws.{IsWorksheet}
use Rattle.worksheet.specs.Rewrite.{rewrite_of}
use Rattle.worksheet.proofs.Rewriting.{rewrite_makes_the_same}
use Rattle.worksheet.proofs.WorksheetLaws.{ops_make_worksheets}
use Rattle.journal.specs.Area.{end_of}
use Rattle.journal.specs.Kept.{EitherStands, FitsAgain, ImageStandsFor}
use Rattle.recovery.specs.Code.{IsTyped}
use Rattle.recovery.specs.Sheets.{StoreView, codes_of, IsSheetImage, IsStore, Makes, SameStore}
use Rattle.recovery.specs.Checkpointed.{CheckpointAnswers, HasRoomAgain}
use Rattle.recovery.specs.declared.fault.CheckpointFault.{CheckpointFault}
use Rattle.recovery.specs.declared.fault.CheckpointFault.TheVariants as faults
use Rattle.recovery.specs.declared.base.Base.{Base}
use Rattle.recovery.specs.inside.Base.{disk_of, is_closed, AgainAnswers, KeepsIn, KeepsSheet, IsBaseOf, MayOweIn, store_on}
use Rattle.recovery.proofs.Kept.{outside}
use Rattle.recovery.proofs.Lengths.{rewrites_are_short}

-- the ops that make a worksheet again make it
pub makes_again : (ops : List Op) (sheet : Contents) → Makes ops sheet → AllByRecursion IsTyped (rewrite_of sheet) → Makes (rewrite_of sheet) sheet
makes_again ops sheet makes typed =
    let is : IsWorksheet sheet = subst IsWorksheet (sym makes.is) (ops_make_worksheets ops makes.allowed) in
    let law = rewrite_makes_the_same sheet is in
    record { typed = typed; lengths = rewrites_are_short ops sheet makes; allowed = law.0; is = sym law.1 }

same_disk : (v : DiskView) → SameDisk v v
same_disk v = record { room = refl; keeps_model = refl; later = omega arith }

module _ {D : Type 0} (view : D → DiskView) (base new : Base D) (sheet : SheetView) (payloads : List (List ℕ))
    (holds : IsBaseOf view base sheet.contents) (opened : is_closed base ≡ false)
    (are : payloads ≡ codes_of (rewrite_of sheet.contents)) (typed : AllByRecursion IsTyped (rewrite_of sheet.contents)) (same : SameDisk (disk_of view base) (disk_of view new)) (owing : MayOweIn new) where
  again : Makes (rewrite_of sheet.contents) sheet.contents
  again = makes_again holds.made.0 sheet.contents holds.made.1 typed

  keeps_again : InModel (disk_of view base) ((before : List (List ℕ)) → KeepsIn base before → KeepsIn new payloads) → IsTrue (disk_of view base).keeps_model → KeepsSheet new sheet.contents
  keeps_again ok model =
      let kept = holds.kept opened model in
      record {
        ops = rewrite_of sheet.contents;
        keeps = subst (λ (l : List (List ℕ)). KeepsIn new l) are (ok model (codes_of kept.ops) kept.keeps);
        makes = again;
      }

  -- the base is still that of the worksheet
  pub still_base : (result : Result Unit CheckpointFault) → AgainAnswers view base new payloads result → IsBaseOf view new sheet.contents
  still_base (Ok u) answers = record {
    owing = owing;
    made = holds.made;
    kept = λ _ model. keeps_again answers.3 (subst IsTrue same.keeps_model model);
  }
  still_base (Err faults.Full) answers = subst (λ (b : Base D). IsBaseOf view b sheet.contents) (sym answers.1) holds
  still_base (Err faults.OutOfMemory) answers = absurd answers
  still_base (Err faults.Disk) answers = record {
    owing = owing;
    made = holds.made;
    kept = λ is_open. absurd (let no : true ≡ false = sym answers.0 ∙ is_open in cc);
  }
  still_base (Err faults.Closed) answers = absurd answers

  pub answered : HasRoomAgain (disk_of view base).room sheet.contents → (result : Result Unit CheckpointFault) → AgainAnswers view base new payloads result → CheckpointAnswers (store_on view (Some base) sheet) (store_on view (Some new) sheet) result
  unfolding keeps_again
  answered room (Ok u) answers = (
    opened,
    room,
    answers.0,
    answers.1 ∙ ap end_of are,
    answers.2,
    λ model.
        let kept = keeps_again answers.3 model in
        record { still_open = answers.0; keeps = outside view new (codes_of (rewrite_of sheet.contents)) kept.keeps; makes = again },
  )
  answered room (Err faults.Full) answers = (
    opened,
    λ fits. answers.0 (subst (λ (l : List (List ℕ)). FitsAgain (disk_of view base).room l) (sym are) fits),
    subst (λ (b : Base D). SameStore (store_on view (Some base) sheet) (store_on view (Some b) sheet)) (sym answers.1)
        (record { disk = refl; end = refl; contents = refl; closed = refl; real = refl; owed = refl; gathers = refl; start = refl }),
  )
  answered room (Err faults.OutOfMemory) answers = absurd answers
  answered room (Err faults.Disk) answers = (opened, room, answers.0, answers.1)
  answered room (Err faults.Closed) answers = absurd answers

  -- at every moment each image is one of the worksheet
  pub same_sheet_moments : InModel (disk_of view base) ((before : List (List ℕ)) → KeepsIn base before → LeavesOnly (EitherStands before payloads) (disk_of view base).history (disk_of view new).history)
      → InModel (disk_of view base) (LeavesOnly (IsSheetImage sheet.contents) (disk_of view base).history (disk_of view new).history)
  same_sheet_moments each model =
      let kept = holds.kept opened model in
      weakens (EitherStands (codes_of kept.ops) payloads) (IsSheetImage sheet.contents) (disk_of view base).history (disk_of view new).history
      (λ i either. ⊎_elim
      (λ before. record { ops = kept.ops; stands = before; makes = kept.makes })
      (λ after. record { ops = rewrite_of sheet.contents; stands = subst (λ (l : List (List ℕ)). ImageStandsFor i l) are after; makes = again }) either)
      (each model (codes_of kept.ops) kept.keeps)

-- where nothing has changed each image is still one of the sheet
pub stays_same : (store : StoreView) → IsStore store → store.closed ≡ false → InModel store.disk (LeavesOnly (IsSheetImage store.sheet.contents) store.disk.history store.disk.history)
stays_same store is opened model = started (IsSheetImage store.sheet.contents) store.disk.history (is.images model opened)
