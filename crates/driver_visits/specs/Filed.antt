-- One acceptance, after whatever uses of the program there were: what a crash at any moment of it leaves, and what opens when it has ended. So the contract
-- of `check_accepting`, the law of this crate and the theorem are one statement. (docs/trust/THEOREM.md; premises A1 to A7 in the README of crate `theorem`.)
use Rattle.std.specs.Prelude.{◌≡◌, List, [], ◌∷◌, ◌++◌, Err, Option, ℕ, Result}
use Rattle.disk_model.specs.Disk.{DiskView, Rises, bytes_on}
use Rattle.journal.specs.declared.journal.OpenFault.{OpenFault}
use Rattle.journal.specs.declared.opening.OpenCause.TheVariants as opens
use Rattle.offline_programs.specs.declared.fault.RunFault.TheVariants as fault
use Rattle.worksheet.specs.declared.op.Op.{Op}
use Rattle.session_engine.specs.Host.{HostView}
use Rattle.theorem.specs.Acts.{Files, OpensSo, filed}
use Rattle.theorem.specs.Copies.{PutIn}
use Rattle.check_report.specs.declared.verdict.VerdictCounts.{VerdictCounts}
use Rattle.check_report.specs.Reports.{Case}
use Rattle.sheet_check.specs.Accept.{AcceptAnswer, Acceptance, Filing, ReportedAfter, acceptance, accepted, filing}
use Rattle.sheet_check.specs.Check.{Passage}
use Rattle.sheet_check.specs.Evaluated.{OneByOne}
use Rattle.sheet_check.specs.declared.named.CheckFault.{CheckFault}
use Rattle.sheet_check.specs.declared.named.CheckFault.TheVariants as checks
use Rattle.driver_visits.specs.Acceptances.{LeftByAcceptance, ReportedAcceptance, only_read, put_in}
use Rattle.driver_visits.specs.Earlier.{CrashesLeave, EarlierUses}
use Rattle.driver_visits.specs.Runs.{OpenedAgain}

-- A case was reported after those before it, when the disk was in this state. From that state on a crash leaves a worksheet with what was accepted of this
-- case and of those.
pub record AnswersBeforeText {disk : DiskView} (e : EarlierUses disk) (x : Filing) (at_first : Option (List ℕ)) (put : PutIn) (before : List Case) (one : Case) : Type 0 where
  pub was : ReportedAfter x at_first put.ops before one
  pub leaves : CrashesLeave disk e (filed put (accepted (before ++ one ∷ []))) was.disk.history x.after.history

-- What an acceptance leaves that opened the disk, put answers in and reported these cases, and what is opened then. A crash after the opening leaves some of the
-- answers, with all that was reported by then; one at its end all that it reported. These, and what it put in beside them, are in the worksheet that is opened.
pub record LeavesAnswers {D : Type 0} {ops : List Op} {put : PutIn} (x : Acceptance) (text : Option (List ℕ)) (cases : List Case) (f : Files (bytes_on x.disk) x.disk ops put x.back) (e : EarlierUses x.disk) (opened : Result HostView (OpenFault D)) : Type 0 where
  pub within : CrashesLeave x.disk e (filed put []) f.now.history x.back.history
  pub printed_is : (before : List Case) (one : Case) (others : List Case) → cases ≡ before ++ one ∷ others → AnswersBeforeText e (filing x.held ops f.now x.back) text put before one
  pub ended : CrashesLeave x.disk e (filed put (accepted cases)) x.back.history x.back.history
  pub opens : OpensSo x.disk.room e.ops e.image (bytes_on x.back) (e.acts ++ filed put (accepted cases) ∷ []) opened

-- The same of what an acceptance left: where it couldn't open the disk, what was there is opened.
abbrev pub OpensFiled : {C D : Type 0} {o : OneByOne C} {answer : Result VerdictCounts CheckFault} (q : Passage C) (x : Acceptance) → EarlierUses x.disk → Result HostView (OpenFault D) → (cases : List Case) → LeftByAcceptance o q x answer cases → Type 0
OpensFiled q x e opened cases (only_read reads) = OpensSo x.disk.room e.ops e.image (bytes_on x.back) e.acts opened
OpensFiled q x e opened cases (put_in ops put f looks same more holds order copy) = LeavesAnswers x q.text cases f e opened

-- An acceptance was answered so, as its contract has it, and left this disk: what that reports, by the law of acceptances. It was opened again, which left the
-- disk of `x`.
pub record AcceptsThenOpens {C D : Type 0} (o : OneByOne C) (q : Passage C) (x : Acceptance) (nothing : Type 0) (answer : Result VerdictCounts CheckFault) (opened : Result HostView (OpenFault D)) : Type 0 where
  pub back : DiskView
  pub on : OpenedAgain back x.back
  pub answered : AcceptAnswer o (acceptance x.held x.disk back) q nothing answer
  -- that the disk can't be read is answered only where it failed, and a lack of memory at the opening only where no call of it did
  pub failed : answer ≡ Err (checks.Run (fault.Open opens.Disk)) → Rises x.disk.faults back.faults
  pub memory : answer ≡ Err (checks.Run (fault.Open opens.OutOfMemory)) → back.faults ≡ x.disk.faults
  pub reported : ReportedAcceptance o q (acceptance x.held x.disk back) answer
  pub leaves : (e : EarlierUses x.disk) → OpensFiled q (acceptance x.held x.disk back) e opened reported.cases reported.left
