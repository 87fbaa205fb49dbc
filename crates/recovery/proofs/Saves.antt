-- A worksheet that is written to an empty disk.
use Rattle.std.proofs.Common.{◌≡◌, ℕ, inl, inr, ⊎_elim, List, [], Result, Ok, Err, refl, subst}
use Rattle.std.specs.Prelude.{IfOk}
use Rattle.std.specs.List.{AllByRecursion}
use Rattle.disk_model.specs.Disk.{ChangesArea, DiskState, DiskView, History, Image, Leaves, LeavesOnly, Reaches, Torn}
use Rattle.disk_model.specs.declared.disk.Area.TheVariants.{First}
use Rattle.disk_model.specs.inside.Moments.{goes_on, weakens}
use Rattle.journal.specs.Kept.{EitherStands, ImageStandsFor, Keeps}
use Rattle.journal.specs.inside.Standing.{keeps_images}
use Rattle.worksheet.specs.declared.op.Op.{Op}
use Rattle.worksheet.specs.Contents.{Contents}
use Rattle.worksheet.specs.Ops.{sheet_of}
use Rattle.worksheet.specs.Rewrite.{rewrite_of}
use Rattle.recovery.specs.Code.{IsTyped}
use Rattle.recovery.specs.Saved.{IsBeingSaved}
use Rattle.recovery.specs.Sheets.{codes_of, IsSheetImage, Makes}
use Rattle.recovery.specs.inside.Rescuing.{IsBeingLaid}
use Rattle.recovery.proofs.Renewing.{makes_again}

abbrev IsCutOff : DiskState → Image → Type 0
IsCutOff s i = Reaches (ChangesArea First (Torn 0 11)) s i

pub being_created : (payloads : List (List ℕ)) (h0 h1 : History) → LeavesOnly (IsCutOff h0.now) h0 h1 → LeavesOnly (IsBeingLaid h0.now payloads) h0 h1
being_created payloads h0 h1 run = weakens (IsCutOff h0.now) (IsBeingLaid h0.now payloads) h0 h1 (λ i cut. inl cut) run

pub being_laid : (payloads : List (List ℕ)) (h0 h1 h2 : History) → LeavesOnly (IsCutOff h0.now) h0 h1 → LeavesOnly (EitherStands [] payloads) h1 h2 → LeavesOnly (IsBeingLaid h0.now payloads) h0 h2
being_laid payloads h0 h1 h2 created laid =
    goes_on (IsBeingLaid h0.now payloads) h0 h1 h2 (being_created payloads h0 h1 created)
    (weakens (EitherStands [] payloads) (IsBeingLaid h0.now payloads) h1 h2 (λ i stands. inr stands) laid)

-- the payloads of the ops that make a worksheet again
module _ (ops : List Op) (sheet : Contents) (makes : Makes ops sheet) (typed : AllByRecursion IsTyped (rewrite_of sheet)) where
  sheet_stands : (i : Image) → ImageStandsFor i (codes_of (rewrite_of sheet)) → IsSheetImage sheet i
  sheet_stands i stands = record { ops = rewrite_of sheet; stands = stands; makes = makes_again ops sheet makes typed }

  empty_stands : (i : Image) → ImageStandsFor i [] → IsSheetImage (sheet_of []) i
  empty_stands i stands = record { ops = []; stands = stands; makes = record { typed = tt; lengths = tt; allowed = tt; is = refl } }

  -- what stands for them is an image of it
  pub saved_images : (payloads : List (List ℕ)) (h : History) (end : ℕ) → payloads ≡ codes_of (rewrite_of sheet) → Keeps h end payloads → Leaves (IsSheetImage sheet) h.now
  saved_images payloads h end are keeps i image =
      sheet_stands i (subst (λ (l : List (List ℕ)). ImageStandsFor i l) are (keeps_images h end payloads keeps i image))

  pub saved_moments : (payloads : List (List ℕ)) (s : DiskState) (h0 h1 : History) → payloads ≡ codes_of (rewrite_of sheet) → LeavesOnly (IsBeingLaid s payloads) h0 h1 → LeavesOnly (IsBeingSaved s sheet) h0 h1
  saved_moments payloads s h0 h1 are run =
      weakens (IsBeingLaid s payloads) (IsBeingSaved s sheet) h0 h1
      (λ i laid. ⊎_elim (λ cut. inl cut)
      (λ stands. inr (⊎_elim (λ none. inl (empty_stands i none)) (λ these. inr (sheet_stands i (subst (λ (l : List (List ℕ)). ImageStandsFor i l) are these))) stands)) laid)
      run

  pub saved_answer : {D E : Type 0} (view : D → DiskView) (P : Type 0) (payloads : List (List ℕ)) (result : Result D E) → payloads ≡ codes_of (rewrite_of sheet)
      → IfOk result (λ new. P × ((end : ℕ) × Keeps (view new).history end payloads)) → IfOk result (λ new. P × Leaves (IsSheetImage sheet) (view new).history.now)
  saved_answer view P payloads (Ok new) are laid = (laid.0, saved_images payloads (view new).history laid.1.0 are laid.1.1)
  saved_answer view P payloads (Err e) are laid = tt
