-- What a commit that ends in a fault leaves.
use Rattle.std.proofs.Common.{◌≡◌, inl, inr, length, sym, ◌∙◌, true, false, Some, None, Err}
use Rattle.worksheet.specs.declared.op.Op.{Op}
use Rattle.worksheet.specs.declared.refusal.Refusal.{Refusal}
use Rattle.worksheet.specs.declared.refusal.Refusal.TheVariants as refusal
use Rattle.recovery.specs.Code.{code_of}
use Rattle.recovery.specs.Sheets.{StoreView, HasPlace}
use Rattle.recovery.specs.Committed.{Breaks, CommitAnswers}
use Rattle.recovery.specs.declared.fault.CommitFault.{CommitFault}
use Rattle.recovery.specs.declared.fault.CommitFault.TheVariants as commits
use Rattle.session_engine.specs.inside.Commits.{NotCommitted, refusal_for}
use Rattle.session_engine.proofs.Asking.{fit, unfit}

pub not_committed : (old new : StoreView) (o : Op) (f : CommitFault) (r : Refusal) → CommitAnswers old new o (Err f) → refusal_for f ≡ Some r → NotCommitted old o new r
not_committed old new o (commits.Full back) r a is =
    let e : refusal.JournalFull ≡ r = cc in
    record { same = a.3; cause = inl (sym e, unfit old.disk.room old.end o (λ f. a.1 (a.0, f))) }
not_committed old new o (commits.OutOfMemory back) r a is =
    let e : refusal.OutOfMemory ≡ r = cc in
    record { same = a.2; cause = inr (sym e, fit old.disk.room old.end o a.0.1) }
not_committed old new o commits.Disk r a is = let no : None ≡ Some r = is in cc
not_committed old new o commits.Closed r a is = let no : None ≡ Some r = is in cc

pub broken : (old new : StoreView) (o : Op) (f : CommitFault) → old.closed ≡ false → CommitAnswers old new o (Err f) → refusal_for f ≡ None → HasPlace old (length (code_of o)) × Breaks old new
broken old new o (commits.Full back) opened a is = let no : Some refusal.JournalFull ≡ None = is in cc
broken old new o (commits.OutOfMemory back) opened a is = let no : Some refusal.OutOfMemory ≡ None = is in cc
broken old new o commits.Disk opened a is = a
broken old new o commits.Closed opened a is = let no : true ≡ false = sym a.0 ∙ opened in cc
