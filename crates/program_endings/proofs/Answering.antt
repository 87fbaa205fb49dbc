-- What a program answers, by what its call answered, where the disk was closed.
use Rattle.std.proofs.Common.{◌≡◌, refl, ap, true, sym, ◌∙◌}
use Rattle.std.specs.Prelude.{Bool, Result, Ok, Err, IfErr, IsErrOf, OnOk}
use Rattle.std.specs.Io.KnownBytes.{Appends}
use Rattle.disk_model.specs.Disk.{InModel, Looks, Rises, SameDisk, bytes_on}
use Rattle.worksheet.specs.Contents.{Contents}
use Rattle.recovery.specs.Sheets.{IsSheetImage}
use Rattle.journal.specs.declared.opening.OpenCause.TheVariants as opens
use Rattle.offline_programs.specs.Faults.{TellsShow}
use Rattle.offline_programs.specs.declared.fault.RunFault.{RunFault}
use Rattle.offline_programs.specs.declared.fault.RunFault.TheVariants as fault
use Rattle.sheet_text.specs.Texts.{sheet_text}
use Rattle.program_endings.specs.Ending.{answer_of}
use Rattle.program_endings.specs.Programs.{ShownOf}
use Rattle.program_endings.specs.Records.{GivenDisk, Writing, text_after, text_before, view_given}

abbrev error_or : {T E : Type 0} → E → Result T E → E
error_or other (Ok x) = other
error_or other (Err e) = e

err_same : {T E : Type 0} (r : Result T E) (e d : E) → r ≡ Err e → r ≡ Err d → e ≡ d
err_same r e d is also = ap (error_or e) (sym is ∙ also)

no-error : {P : Type 0} (why : RunFault) → IsErrOf {T = Bool} (Ok true) why → P
no-error why e = absurd cc

done-is-no-error : {P : Type 0} (done : Unit) (why : RunFault) → IsErrOf {T = Unit} (Ok done) why → P
done-is-no-error done why e = absurd cc

-- a fault of the answer is the one of the call
of-call : {T : Type 0} (why f : RunFault) → IsErrOf {T = Bool} (Err why) f → IsErrOf {T = T} (Err why) f
of-call why f e = ap (λ x. Err x) (err_same _ why f refl e)

of-answer : (why f : RunFault) → IsErrOf {T = Unit} (Err why) f → IsErrOf {T = Bool} (Err why) f
of-answer why f e = ap (λ x. Err x) (err_same _ why f refl e)

module _ {D W : Type 0} (g : GivenDisk D) (later : D) (w : Writing W) (closed : g.how.closed later) (same : SameDisk (view_given g) (g.how.view later))
    (looks : InModel (view_given g) (Looks (view_given g).history (g.how.view later).history)) where
  pub show_answered : (r : Result Unit RunFault) → InModel (view_given g) ((sheet : Contents) → IsSheetImage sheet (bytes_on (view_given g)) → OnOk r (Appends (text_before w) (text_after w) (sheet_text sheet)))
      → InModel (view_given g) (OnOk r ((sheet : Contents) × IsSheetImage sheet (bytes_on (view_given g)))) → (IsErrOf r (fault.Open opens.Disk) → Rises (view_given g).faults (g.how.view later).faults)
      → ((IsErrOf r (fault.Open opens.Disk) → ⊥) → (g.how.view later).faults ≡ (view_given g).faults) → IfErr r (TellsShow (view_given g) (w.new ≡ w.old)) → ShownOf g w (answer_of r)
  show_answered (Ok done) shown found failed steady reported = record {
    later = later;
    closed = closed;
    whole = refl;
    shown = shown;
    found = found;
    same = same;
    looks = looks;
    failed = λ e. no-error (fault.Open opens.Disk) e;
    steady = λ none. steady (λ e. done-is-no-error done (fault.Open opens.Disk) e);
    fault = tt;
  }
  show_answered (Err why) shown found failed steady reported = record {
    later = later;
    closed = closed;
    whole = tt;
    shown = shown;
    found = found;
    same = same;
    looks = looks;
    failed = λ e. failed (of-call why (fault.Open opens.Disk) e);
    steady = λ none. steady (λ e. none (of-answer why (fault.Open opens.Disk) e));
    fault = reported;
  }
