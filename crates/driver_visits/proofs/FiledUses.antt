-- What an acceptance leaves, after whatever uses of the program there were.
use Rattle.std.proofs.Common.{◌∙◌, List, [], ◌∷◌, ◌++◌, Option, ℕ, IsTrue, ap, append-nil, append_assoc, refl, subst, sym}
use Rattle.std.specs.Prelude.{Err, Result, ◌≡◌}
use Rattle.disk_model.specs.Disk.{DiskView, Image, InModel, IsImage, Looks, Rises, SameDisk, bytes_on}
use Rattle.disk_model.specs.inside.Moments.{started, weakens}
use Rattle.journal.specs.declared.journal.OpenFault.{OpenFault}
use Rattle.journal.specs.declared.opening.OpenCause.TheVariants as causes
use Rattle.offline_programs.specs.declared.fault.RunFault.TheVariants as fault
use Rattle.worksheet.specs.declared.op.Op.{Op}
use Rattle.session_engine.specs.Host.{HostView}
use Rattle.theorem.specs.Acts.{Act, Files, HasFirst, OpensAfterActs, OpensSo, Uses, filed, no_use}
use Rattle.theorem.specs.Acts as acts
use Rattle.theorem.specs.Copies.{PutIn}
use Rattle.recovery.specs.Sheets.{IsSheetImage}
use Rattle.worksheet.specs.Ops.{sheet_of}
use Rattle.check_report.specs.declared.verdict.VerdictCounts.{VerdictCounts}
use Rattle.check_report.specs.Reports.{Case}
use Rattle.sheet_check.specs.Accept.{AcceptAnswer, Acceptance, Filing, ReportedAfter, EachReported, acceptance, accepted, filing}
use Rattle.sheet_check.specs.Check.{Passage}
use Rattle.sheet_check.specs.Evaluated.{OneByOne}
use Rattle.sheet_check.specs.Kept.{IsAmong}
use Rattle.sheet_check.specs.declared.named.CheckFault.{CheckFault}
use Rattle.sheet_check.specs.declared.named.CheckFault.TheVariants as checks
use Rattle.driver_visits.specs.Acceptances.{LeftByAcceptance, ReportedAcceptance, only_read, put_in}
use Rattle.host_laws.specs.Turns.{HostsInTurn}
use Rattle.recovery.specs.Laws.{OneSheet}
use Rattle.driver_visits.specs.Earlier.{EarlierUses}
use Rattle.driver_visits.specs.Filed.{AcceptsThenOpens, AnswersBeforeText, OpensFiled}
use Rattle.driver_visits.proofs.Leaving.{crashed_now, left_with, used_on}

-- an image with all of these and some of the first of the rest
has_first : (ops done rest : List Op) (i : Image) → IsAmong (ops ++ done) rest i → HasFirst ops (done ++ rest) done i
has_first ops done rest i among = record {
  done = done ++ among.done;
  rest = among.rest;
  split = ap (λ (l : List Op). done ++ l) among.split ∙ sym (append_assoc done among.done among.rest);
  withheld = among.done;
  has = refl;
  image = subst (λ (os : List Op). IsSheetImage (sheet_of os) i) (append_assoc ops done among.done) among.image;
}

-- one of these that were reported in order was, after those before it
pub reported_after : (x : Filing) (text : Option (List ℕ)) (put : List Op) (front before : List Case) (one : Case) (others : List Case)
    → EachReported x text put front (before ++ one ∷ others) → ReportedAfter x text put (front ++ before) one
reported_after x text put front [] one others all = subst (λ (l : List Case). ReportedAfter x text put l one) (sym (append-nil front)) all.0
reported_after x text put front (c ∷ before) one others all =
    subst (λ (l : List Case). ReportedAfter x text put l one) (append_assoc front (c ∷ []) before) (reported_after x text put (front ++ c ∷ []) before one others all.1)

-- an acceptance leaves a disk that keeps the model
kept-by : {C : Type 0} (o : OneByOne C) (q : Passage C) (x : Acceptance) (answer : Result VerdictCounts CheckFault) → IsTrue x.disk.keeps_model → (cases : List Case) → LeftByAcceptance o q x answer cases → IsTrue x.back.keeps_model
kept-by o q x answer model cases (only_read reads) = subst IsTrue (sym reads.same.keeps_model) model
kept-by o q x answer model cases (put_in ops put f looks same more holds order whole) = subst IsTrue (sym same.keeps_model) (subst IsTrue (sym f.same.keeps_model) model)

module _ {C D : Type 0} (o : OneByOne C) (q : Passage C) (held : Option (List ℕ) → DiskView → Type 0) (disk back : DiskView) (opened : Result HostView (OpenFault D)) (hosts : HostsInTurn) (one : OneSheet) (model : IsTrue disk.keeps_model)
    (image : IsTrue back.keeps_model → IsImage back.history.now (bytes_on back)) (after : OpensAfterActs back opened) (e : EarlierUses disk) where
  opens_as : (acts : List Act) → IsTrue back.keeps_model → Uses disk.room e.image acts (bytes_on back) → OpensSo disk.room e.ops e.image (bytes_on back) acts opened
  opens_as acts kept came = after kept disk.room e.ops e.image acts e.allowed e.found came

  -- what was reported was on the disk
  before-text : (ops : List Op) (put : PutIn) (f : Files (bytes_on disk) disk ops put back) (before : List Case) (case : Case) → ReportedAfter (filing held ops f.now back) q.text put.ops before case
      → AnswersBeforeText e (filing held ops f.now back) q.text put before case
  before-text ops put f before case was =
      let first = accepted (before ++ case ∷ []) in
      record {
        was = was;
        leaves = λ crash crashed. left_with hosts one disk e (filed put first) crash (acts.filing disk back ops f was.disk.history
            (λ keeps. weakens (IsAmong (ops ++ first) was.rest) (HasFirst ops put.ops first) was.disk.history back.history
            (λ i among. subst (λ (l : List Op). HasFirst ops l first i) (sym was.split) (has_first ops first was.rest i among)) (was.since keeps)) crashed no_use);
      }

  pub opens_filed : (answer : Result VerdictCounts CheckFault) (cases : List Case) (left : LeftByAcceptance o q (acceptance held disk back) answer cases) → OpensFiled q (acceptance held disk back) e opened cases left
  opens_filed answer cases (only_read reads) =
      let kept : IsTrue back.keeps_model = subst IsTrue (sym reads.same.keeps_model) model in
      opens_as e.acts kept (subst (λ (i : Image). Uses disk.room e.image e.acts i) (sym (reads.looks model).content) e.came)
  opens_filed answer cases (put_in ops put f looks same more holds order copy) =
      let now : IsTrue f.now.keeps_model = subst IsTrue (sym f.same.keeps_model) model in
      let kept : IsTrue back.keeps_model = subst IsTrue (sym same.keeps_model) now in
      let reported = accepted cases in
      let at_end = λ (keeps : IsTrue f.now.keeps_model). started (HasFirst ops put.ops reported) back.history (holds keeps) in
      record {
        within = λ crash crashed. left_with hosts one disk e (filed put []) crash (acts.filing disk back ops f f.now.history f.moments crashed no_use);
        printed_is = λ before case others split. before-text ops put f before case
            (reported_after (filing held ops f.now back) q.text put.ops [] before case others (subst (EachReported (filing held ops f.now back) q.text put.ops []) split order));
        ended = λ crash crashed. left_with hosts one disk e (filed put reported) crash (acts.filing disk back ops f back.history at_end crashed no_use);
        opens = opens_as (e.acts ++ filed put reported ∷ []) kept
            (used_on disk.room e.image (bytes_on disk) (bytes_on back) e.acts (filed put reported ∷ []) e.came
            (acts.filing disk back ops f back.history at_end (crashed_now back.history (bytes_on back) (image kept)) no_use));
      }

pub accepts_then_opens : {C D : Type 0} (o : OneByOne C) (q : Passage C) (x : Acceptance) (nothing : Type 0) (later : DiskView) (answer : Result VerdictCounts CheckFault) (opened : Result HostView (OpenFault D)) → HostsInTurn → OneSheet → IsTrue x.disk.keeps_model
    → (IsTrue x.back.keeps_model → IsImage x.back.history.now (bytes_on x.back)) → OpensAfterActs x.back opened → SameDisk x.back later → InModel x.back (Looks x.back.history later.history)
    → AcceptAnswer o x q nothing answer → (answer ≡ Err (checks.Run (fault.Open causes.Disk)) → Rises x.disk.faults x.back.faults) → (answer ≡ Err (checks.Run (fault.Open causes.OutOfMemory)) → x.back.faults ≡ x.disk.faults)
    → ReportedAcceptance o q x answer → AcceptsThenOpens o q (acceptance x.held x.disk later) nothing answer opened
accepts_then_opens o q x nothing later answer opened hosts one model image after same looks answered failed memory reported = record {
  back = x.back;
  on = record { same = same; looks = looks (kept-by o q x answer model reported.cases reported.left) };
  answered = answered;
  failed = failed;
  memory = memory;
  reported = reported;
  leaves = λ e. opens_filed o q x.held x.disk x.back opened hosts one model image after e answer reported.cases reported.left;
}
