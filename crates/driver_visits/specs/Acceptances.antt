-- What `check --accept` leaves of a worksheet's disk is an acceptance of the theorem, of the answers that its report has.
-- (docs/trust/THEOREM.md; premise A7 in the README of crate `theorem`.)
use Rattle.std.specs.Prelude.{◌≡◌, ◌⊎◌, ℕ, IsTrue, List, [], ◌∷◌, ◌++◌, Option, Result, IfOk, Ok, Err}
use Rattle.std.specs.Io.KnownBytes.{Appends}
use Rattle.disk_model.specs.Disk.{DiskView, InModel, Leaves, Looks, SameDisk, bytes_on}
use Rattle.worksheet.specs.declared.op.Op.{Op}
use Rattle.worksheet.specs.Contents.{Contents}
use Rattle.worksheet.specs.Ops.{sheet_of}
use Rattle.theorem.specs.Acts.{Files, HasFirst}
use Rattle.theorem.specs.Copies.{PutIn, put_from}
use Rattle.child_edge.specs.Moments.{events_of}
use Rattle.host_events.specs.declared.outcome.HostFault.TheVariants as hosts
use Rattle.offline_programs.specs.declared.fault.RunFault.TheVariants as fault
use Rattle.check_report.specs.declared.chosen.Chosen.{Chosen}
use Rattle.check_report.specs.declared.report.ReportFormat.TheVariants as format
use Rattle.check_report.specs.declared.verdict.VerdictCounts.{VerdictCounts}
use Rattle.check_report.specs.Reports.{Case, closing_text, judgements_of, report_front}
use Rattle.check_report.specs.Verdicts.{counts_of}
use Rattle.sheet_check.specs.Accept.{AcceptAnswer, Acceptance, EachReported, acceptance, accepted, filing, to_accept}
use Rattle.sheet_check.specs.Check.{OnlyRead, Passage, passage}
use Rattle.sheet_check.specs.Evaluated.{OneByOne, Way}
use Rattle.sheet_check.specs.declared.named.CheckFault.{CheckFault}
use Rattle.sheet_check.specs.declared.named.CheckFault.TheVariants as checks
use Rattle.driver_visits.specs.Copied.{PutFromCopy, run_trace}

-- these ops are those that were reported; and where the disk failed, one more
abbrev pub AtMostOneMore : Result VerdictCounts CheckFault → List Op → List Op → Type 0
AtMostOneMore answer put reported = (put ≡ reported) ⊎ ((answer ≡ Err (checks.Run (fault.Host hosts.Disk))) × (last : Op) × (put ≡ reported ++ last ∷ []))

-- The cases of the copy: those that were reported, or one more, at which it ended.
abbrev pub OrOneMore : List Case → List Case → Type 0
OrOneMore all cases = (all ≡ cases) ⊎ ((last : Case) × (all ≡ cases ++ last ∷ []))

-- No field was evaluated, and nothing was put in or reported. Or fields were, on one copy, whose host was given these events, and the ops are what came of that.
abbrev pub FromCopy : {C : Type 0} → OneByOne C → Contents → Passage C → List Case → PutIn → Type 0
FromCopy o sheet q cases put =
    ((put ≡ put_from [] []) × (cases ≡ [])) ⊎ ((all : List Case) × OrOneMore all cases × (from : PutFromCopy o sheet q all put.ops) × (put.given ≡ events_of (run_trace from.run)))

-- What an acceptance that reported these cases left of a disk that keeps the model. It couldn't open it and made reads alone. Or it opened it, which
-- changed no byte, and put answers in, those that it reported, and one more where the disk failed. Each was on the disk before it was reported, and each is a
-- whole block that answered the line of its field on the copy. When it had ended each image that a crash may leave has all that it reported.
pub data LeftByAcceptance {C : Type 0} (o : OneByOne C) (q : Passage C) (x : Acceptance) (answer : Result VerdictCounts CheckFault) : List Case → Type 0 where
  only_read : OnlyRead x.disk x.back → LeftByAcceptance o q x answer []
  put_in : {cases : List Case} (ops : List Op) (put : PutIn) → (f : Files (bytes_on x.disk) x.disk ops put x.back) → Looks x.disk.history f.now.history
      → SameDisk f.now x.back → AtMostOneMore answer put.ops (accepted cases) → InModel f.now (Leaves (HasFirst ops put.ops (accepted cases)) x.back.history.now)
      → EachReported (filing x.held ops f.now x.back) q.text put.ops [] cases → FromCopy o (sheet_of ops) q cases put → LeftByAcceptance o q x answer cases

-- what stands after the report of these cases: their counts, and nothing where it ended by a fault
abbrev pub closing_after : List Case → Result VerdictCounts CheckFault → List ℕ
closing_after cases (Ok counts) = closing_text format.Accepting (counts_of (judgements_of cases))
closing_after cases (Err why) = []

-- An acceptance reported these cases, of which it had put in the answers that it accepts; where it ended well, these are their counts. What it wrote is the
-- report of them and no more, but where its output failed.
pub record ReportedAcceptance {C : Type 0} (o : OneByOne C) (q : Passage C) (x : Acceptance) (answer : Result VerdictCounts CheckFault) : Type 0 where
  pub cases : List Case
  pub wrote : (answer ≡ Err (checks.Run fault.Output) → ⊥) → Appends q.text q.written (report_front format.Accepting cases ++ closing_after cases answer)
  pub counted : IfOk answer (λ counts. counts ≡ counts_of (judgements_of cases))
  pub left : LeftByAcceptance o q x answer cases

-- Whatever `check --accept` answers, by its contract, on a disk that keeps the model, is one. Writers hold the bytes that `contents` has of them, and held
-- some while a disk was in a state.
abbrev pub AcceptancesAreFiled : {C W : Type 0} → (Option ℕ → Way C) → (W → Option (List ℕ)) → (Option (List ℕ) → DiskView → Type 0) → Type 0
AcceptancesAreFiled {C = C} {W = W} within contents held = (limit : Option ℕ) (chosen : Chosen) (disk back : DiskView) (c d : C) (a b : W) (answer : Result VerdictCounts CheckFault)
    → IsTrue disk.keeps_model
    → AcceptAnswer (to_accept (within limit) chosen) (acceptance held disk back) (passage c d (contents a) (contents b)) ((b ≡ a) × (d ≡ c)) answer
    → ReportedAcceptance (to_accept (within limit) chosen) (passage c d (contents a) (contents b)) (acceptance held disk back) answer
