-- What `check --accept` leaves is an acceptance of the theorem.
use Rattle.std.proofs.Common.{◌≡◌, ◌∙◌, inl, inr, ℕ, List, [], ◌∷◌, ◌++◌, Option, refl, sym, ap, subst, append-nil, append_assoc, IsTrue, Some, None}
use Rattle.std.specs.Prelude.{Result, Ok, Err}
use Rattle.std.specs.List.{AllByRecursion}
use Rattle.std.specs.Io.KnownBytes.{Appends}
use Rattle.std.proofs.lemmas.Grind.{flat_map-append}
use Rattle.std.proofs.Math.Nat.{le_refl}
use Rattle.disk_model.specs.Disk.{DiskView, Image, bytes_on}
use Rattle.disk_model.specs.inside.Moments.{started, weakens}
use Rattle.worksheet.specs.declared.op.Op.{Op}
use Rattle.worksheet.specs.Contents.{Contents}
use Rattle.worksheet.specs.Ops.{sheet_of}
use Rattle.recovery.specs.Sheets.{IsEither, IsSheetImage}
use Rattle.host_events.specs.declared.event.Event.{Event}
use Rattle.child_edge.specs.Moments.{events_of}
use Rattle.theorem.specs.Acts.{HasFirst}
use Rattle.theorem.specs.Copies.{IsEvalOrChild, PutIn, PutsWhole, put_from}
use Rattle.host_events.specs.declared.outcome.HostFault.TheVariants as hosts
use Rattle.offline_programs.specs.declared.fault.RunFault.{RunFault}
use Rattle.offline_programs.specs.declared.fault.RunFault.TheVariants as fault
use Rattle.check_report.specs.declared.chosen.Chosen.{Chosen}
use Rattle.check_report.specs.declared.report.ReportFormat.TheVariants as format
use Rattle.check_report.specs.declared.verdict.VerdictCounts.{VerdictCounts}
use Rattle.check_report.specs.Reports.{Case, report_front}
use Rattle.sheet_check.specs.Accept as ends
use Rattle.sheet_check.specs.Accept.{AcceptAnswer, AcceptLeft, Acceptance, FiledAll, FiledBut, FoundOn, SheetAccepts, acceptance, accepted, accepted_of, filing, opened, to_accept, unopened}
use Rattle.sheet_check.specs.Check.{Passage, passage}
use Rattle.sheet_check.specs.Evaluated.{OneByOne, Way}
use Rattle.sheet_check.specs.Kept.{IsAmong}
use Rattle.sheet_check.specs.Named.{ByNames, all_named, answer_as, missing_named, no_field}
use Rattle.sheet_check.specs.declared.named.CheckFault.{CheckFault}
use Rattle.sheet_check.specs.declared.named.CheckFault.TheVariants as checks
use Rattle.driver_visits.specs.Acceptances.{FromCopy, LeftByAcceptance, ReportedAcceptance, only_read, put_in}
use Rattle.driver_visits.specs.Copied.{AnsweredOnCopy, PutFromCopy, RanOnCopy, all_fields, broke_off, first_fields, run_trace}
use Rattle.driver_visits.proofs.Copying.{ran_whole, run_evaluates, whole_by}

-- what is so of each
all_so : (P Q : Op → Type 0) → ((put : Op) → P put → Q put) → (ops : List Op) → AllByRecursion P ops → AllByRecursion Q ops
all_so P Q so [] all = tt
all_so P Q so (o ∷ ops) all = (so o all.0, all_so P Q so ops all.1)

-- some of the first of these ops are on an image
among_first : (ops put : List Op) (i : Image) → IsAmong ops put i → HasFirst ops put [] i
among_first ops put i among = record { done = among.done; rest = among.rest; split = among.split; withheld = among.done; has = refl; image = among.image }

-- all of them are
all_first : (ops put : List Op) (i : Image) → IsSheetImage (sheet_of (ops ++ put)) i → HasFirst ops put put i
all_first ops put i image = record { done = put; rest = []; split = sym (append-nil put); withheld = []; has = sym (append-nil put); image = image }

-- all of them are, and one after them may be
but_first : (ops more : List Op) (one : Op) (i : Image) → IsEither (ops ++ more) one i → HasFirst ops (more ++ one ∷ []) more i
but_first ops more one i (inl before) = record { done = more; rest = one ∷ []; split = refl; withheld = []; has = sym (append-nil more); image = before }
but_first ops more one i (inr following) = record {
  done = more ++ one ∷ [];
  rest = [];
  split = sym (append-nil (more ++ one ∷ []));
  withheld = one ∷ [];
  has = refl;
  image = subst (λ (os : List Op). IsSheetImage (sheet_of os) i) (append_assoc ops more (one ∷ [])) following;
}

-- the first of ops that are all so
front_of : (P : Op → Type 0) (first more : List Op) → AllByRecursion P (first ++ more) → AllByRecursion P first
front_of P [] more all = tt
front_of P (op ∷ first) more all = (all.0, front_of P first more all.1)

module _ (held : Option (List ℕ) → DiskView → Type 0) (disk back : DiskView) (model : IsTrue disk.keeps_model) (sheet : Contents) (ops : List Op) (now : DiskView) (found : FoundOn disk sheet ops now) {C : Type 0} (way : Way C) (chosen : Chosen) (c d : C) (text b : Option (List ℕ)) where
  abbrev o : OneByOne C
  o = to_accept way chosen

  abbrev q : Passage C
  q = passage c d text b

  abbrev x : Acceptance
  x = acceptance held disk back

  abbrev Left : Result VerdictCounts CheckFault → List Case → Type 0
  Left answer = LeftByAcceptance o q x answer

  -- what these cases gave came from a copy
  abbrev Whole : List Case → List Op → Type 0
  Whole cases put = (given : List Event) × FromCopy o (sheet_of ops) q cases (put_from given put)

  whole-answers : (cases : List Case) (given : List Event) (put : List Op) → FromCopy o (sheet_of ops) q cases (put_from given put) → AllByRecursion (PutsWhole (sheet_of ops) given) put
  whole-answers cases given put (inl none) = subst (AllByRecursion (PutsWhole (sheet_of ops) given)) (sym (ap (λ (p : PutIn). p.ops) none.0)) tt
  whole-answers cases given put (inr (all, more, from, are)) =
      subst (λ (es : List Event). AllByRecursion (PutsWhole (sheet_of ops) es) put) (sym are)
      (all_so (AnsweredOnCopy o (sheet_of ops) q all from.run) (PutsWhole (sheet_of ops) (events_of (run_trace from.run))) (whole_by o (sheet_of ops) q all from.run) put from.whole)

  only-evaluating : (cases : List Case) (given : List Event) (put : List Op) → FromCopy o (sheet_of ops) q cases (put_from given put) → AllByRecursion IsEvalOrChild given
  only-evaluating cases given put (inl none) = subst (AllByRecursion IsEvalOrChild) (sym (ap (λ (p : PutIn). p.given) none.0)) tt
  only-evaluating cases given put (inr (all, more, from, are)) = subst (AllByRecursion IsEvalOrChild) (sym are) (run_evaluates o (sheet_of ops) q all from.run)

  found-on : IsSheetImage (sheet_of ops) (bytes_on disk)
  found-on = subst (λ (s : Contents). IsSheetImage s (bytes_on disk)) found.is (found.found model)

  -- nothing was put in
  none-left : (answer : Result VerdictCounts CheckFault) → back ≡ now → Left answer []
  none-left answer is =
      let here : (i : Image) → IsSheetImage sheet i → HasFirst ops [] [] i = λ i image. all_first ops [] i
      (subst (λ (s : Contents). IsSheetImage s i) (found.is ∙ ap sheet_of (sym (append-nil ops))) image) in
      subst (λ (d : DiskView). LeftByAcceptance o q (acceptance held disk d) answer []) (sym is)
      (put_in ops (put_from [] [])
      (record {
        keeps_model = model;
        read = refl;
        found = found-on;
        evaluating = tt;
        answers = tt;
        from = tt;
        now = now;
        same = found.same;
        moments = λ keeps. started (HasFirst ops [] []) now.history (λ i image. here i (found.durable model i image));
      })
      (found.looks model)
      (record { room = refl; keeps_model = refl; later = le_refl now.faults })
      (inl refl)
      (λ keeps i image. here i (found.durable model i image))
      tt
      (inl (refl, refl)))

  all-left : (answer : Result VerdictCounts CheckFault) (cases : List Case) → FiledAll (filing held ops now back) text cases → Whole cases (accepted cases) → Left answer cases
  all-left answer cases filed whole =
      let holds = filed.0 in
      put_in ops (put_from whole.0 (accepted cases))
      (record {
        keeps_model = model;
        read = refl;
        found = found-on;
        evaluating = only-evaluating cases whole.0 (accepted cases) whole.1;
        answers = whole-answers cases whole.0 (accepted cases) whole.1;
        from = holds.from;
        now = now;
        same = found.same;
        moments = λ keeps. weakens (IsAmong ops (accepted cases)) (HasFirst ops (accepted cases) []) now.history back.history (among_first ops (accepted cases)) (holds.moments keeps);
      })
      (found.looks model)
      holds.same
      (inl refl)
      (λ keeps i image. all_first ops (accepted cases) i (holds.holds keeps i image))
      filed.1
      whole.1

  but-left : (answer : Result VerdictCounts CheckFault) (cases : List Case) (one : Op) → answer ≡ Err (checks.Run (fault.Host hosts.Disk)) → FiledBut (filing held ops now back) text cases one
      → Whole cases (accepted cases ++ one ∷ []) → Left answer cases
  but-left answer cases one failed filed whole =
      let put = accepted cases in
      let holds = filed.0 in
      put_in ops (put_from whole.0 (put ++ one ∷ []))
      (record {
        keeps_model = model;
        read = refl;
        found = found-on;
        evaluating = only-evaluating cases whole.0 (put ++ one ∷ []) whole.1;
        answers = whole-answers cases whole.0 (put ++ one ∷ []) whole.1;
        from = holds.from;
        now = now;
        same = found.same;
        moments = λ keeps. weakens (IsAmong ops (put ++ one ∷ [])) (HasFirst ops (put ++ one ∷ []) []) now.history back.history (among_first ops (put ++ one ∷ [])) (holds.moments keeps);
      })
      (found.looks model)
      holds.same
      (inr (failed, one, refl))
      (λ keeps i image. but_first ops put one i (holds.holds keeps i image))
      filed.1
      whole.1

  -- the first of what is accepted of fields that were evaluated on a copy
  came-from : (all : List Case) (run : RanOnCopy o sheet q all) (put rest : List Op) → accepted all ≡ put ++ rest
      → (given : List Event) × (from : PutFromCopy o (sheet_of ops) q all put) × (given ≡ events_of (run_trace from.run))
  came-from all run put rest is =
      subst (λ (s : Contents). (given : List Event) × (from : PutFromCopy o s q all put) × (given ≡ events_of (run_trace from.run))) found.is (
        events_of (run_trace run),
        record { run = run; rest = rest; puts = is; whole = front_of (AnsweredOnCopy o sheet q all run) put rest (subst (AllByRecursion (AnsweredOnCopy o sheet q all run)) is (ran_whole o sheet q all run)) },
        refl,
      )

  -- all of it
  all-of : (cases : List Case) → RanOnCopy o sheet q cases → Whole cases (accepted cases)
  all-of cases run =
      let c = came-from cases run (accepted cases) [] (sym (append-nil (accepted cases))) in
      (c.0, inr (cases, inl refl, c.1, c.2))

  -- that of the last one, too, which wasn't reported
  with-last : (cases : List Case) (last : Case) (one : Op) → accepted_of last ≡ one ∷ [] → RanOnCopy o sheet q (cases ++ last ∷ []) → Whole cases (accepted cases ++ one ∷ [])
  with-last cases last one taken run =
      let c = came-from (cases ++ last ∷ []) run (accepted cases ++ one ∷ []) []
      (flat_map-append accepted_of cases (last ∷ []) ∙ ap (λ (l : List Op). accepted cases ++ l) (append-nil (accepted_of last) ∙ taken) ∙ sym (append-nil (accepted cases ++ one ∷ []))) in
      (c.0, inr (cases ++ last ∷ [], inr (last, refl), c.1, c.2))

  -- but that of the last one, which didn't fit
  but-last : (cases : List Case) (last : Case) → RanOnCopy o sheet q (cases ++ last ∷ []) → Whole cases (accepted cases)
  but-last cases last run =
      let c = came-from (cases ++ last ∷ []) run (accepted cases) (accepted (last ∷ [])) (flat_map-append accepted_of cases (last ∷ [])) in
      (c.0, inr (cases ++ last ∷ [], inr (last, refl), c.1, c.2))

  abbrev Reported : Result VerdictCounts CheckFault → Type 0
  Reported = ReportedAcceptance o q x

  -- the report of these cases was written, and nothing after it
  wrote-front : (cases : List Case) (why : CheckFault) → Appends text b (report_front format.Accepting cases) → Left (Err why) cases → Reported (Err why)
  wrote-front cases why wrote left = record {
    cases = cases;
    wrote = λ written. subst (Appends text b) (sym (append-nil (report_front format.Accepting cases))) wrote;
    counted = tt;
    left = left;
  }

  -- the writer failed
  unreported : (cases : List Case) (why : RunFault) → why ≡ fault.Output → FiledAll (filing held ops now back) text cases → Whole cases (accepted cases) → Reported (Err (checks.Run why))
  unreported cases why is filed whole = record {
    cases = cases;
    wrote = λ written. absurd (written (ap (λ (x : RunFault). Err (checks.Run x)) is));
    counted = tt;
    left = all-left (Err (checks.Run why)) cases filed whole;
  }

  broke-off : (why : RunFault) → AcceptLeft o sheet q (filing held ops now back) why → Reported (Err (checks.Run why))
  broke-off why (ends.halted cases led wrote holds) = wrote-front cases (checks.Run why) wrote (all-left (Err (checks.Run why)) cases holds (all-of cases (broke_off led)))
  broke-off why (ends.unremembered cases is led wrote holds) = wrote-front cases (checks.Run why) wrote (all-left (Err (checks.Run why)) cases holds (all-of cases (first_fields led)))
  broke-off why (ends.full cases last one is led taken wrote holds place) =
      wrote-front cases (checks.Run why) wrote (all-left (Err (checks.Run why)) cases holds (but-last cases last (first_fields led)))
  broke-off why (ends.broken cases last one is led taken wrote holds) =
      wrote-front cases (checks.Run why) wrote
      (but-left (Err (checks.Run why)) cases one (ap (λ (x : RunFault). Err (checks.Run x)) is) holds (with-last cases last one taken (first_fields led)))
  broke-off why (ends.unwritten cases last is led holds) = unreported (cases ++ last ∷ []) why is holds (all-of (cases ++ last ∷ []) (first_fields led))
  broke-off why (ends.uncounted cases is led all holds) = unreported cases why is holds (all-of cases (first_fields led))

  pub came : (nothing : Type 0) → (nothing → Appends text b []) → (counted : Result VerdictCounts RunFault)
      → SheetAccepts o sheet q nothing (filing held ops now back) counted → Reported (answer_as counted)
  came nothing unwritten (Ok counts) (checked, holds) = record {
    cases = checked.cases;
    wrote = λ written. checked.wrote;
    counted = checked.counted;
    left = all-left (Ok counts) checked.cases holds (all-of checked.cases (all_fields checked));
  }
  came nothing unwritten (Err why) (inl (is, none, holds)) = wrote-front [] (checks.Run why) (unwritten none) (all-left (Err (checks.Run why)) [] holds ([], inl (refl, refl)))
  came nothing unwritten (Err why) (inr left) = broke-off why left

  pub named : (nothing : Type 0) → (nothing → Appends text b []) → (missing : Option ℕ) (answer : Result VerdictCounts CheckFault)
      → ByNames missing (nothing × (back ≡ now)) (SheetAccepts o sheet q nothing (filing held ops now back)) answer → Reported answer
  named nothing unwritten missing answer (no_field id there is (none, same)) =
      subst Reported (sym is) (wrote-front [] (checks.NoField id) (unwritten none) (none-left (Err (checks.NoField id)) same))
  named nothing unwritten missing answer (all_named counted there is came_so) = subst Reported (sym is) (came nothing unwritten counted came_so)

pub acceptance_filed : {C : Type 0} (way : Way C) (chosen : Chosen) (x : Acceptance) (q : Passage C) (nothing : Type 0) → (nothing → Appends q.text q.written []) → (answer : Result VerdictCounts CheckFault)
    → IsTrue x.disk.keeps_model → AcceptAnswer (to_accept way chosen) x q nothing answer → ReportedAcceptance (to_accept way chosen) q x answer
acceptance_filed way chosen x q nothing unwritten answer model (unopened why is none reason reads) =
    subst (ReportedAcceptance (to_accept way chosen) q x) (sym is) (record { cases = []; wrote = λ written. unwritten none; counted = tt; left = only_read reads })
acceptance_filed way chosen x q nothing unwritten answer model (opened sheet ops now found by_names) =
    named x.held x.disk x.back model sheet ops now found way chosen q.sources q.left q.text q.written nothing unwritten (missing_named chosen sheet.fields) answer by_names
