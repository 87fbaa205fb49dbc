-- Fields that were evaluated together, compared one after another, and where such a check ends.
use Rattle.std.proofs.Common.{◌≡◌, ◌+◌, inl, inr, ℕ, true, false, List, [], ◌∷◌, ◌++◌, Option, Some, None, refl, ap, sym, ◌∙◌, subst, append_assoc, append-nil}
use Rattle.std.specs.Prelude.{Result, Ok, Err, IfNone, IfSome}
use Rattle.std.proofs.KnownBytes.{Appends-trans, Appends-nil}
use Rattle.std.specs.Io.KnownBytes.{Appends}
use Rattle.worksheet.specs.declared.field.Field.{Field}
use Rattle.worksheet.specs.Contents.{Contents}
use Rattle.session_engine.specs.World.{World}
use Rattle.session_engine.specs.Host.{HostView, IsHost}
use Rattle.child_edge.specs.Faithful.{At, at}
use Rattle.offline_programs.specs.declared.fault.RunFault.{RunFault}
use Rattle.offline_programs.specs.declared.fault.RunFault.TheVariants as fault
use Rattle.sheet_check.proofs.Opening.{StopsIn}
use Rattle.check_report.specs.declared.chosen.Chosen.{Chosen}
use Rattle.check_report.specs.declared.report.ReportFormat.{ReportFormat}
use Rattle.check_report.specs.declared.verdict.VerdictCounts.{VerdictCounts}
use Rattle.check_report.specs.declared.verdict.Judgement.{Judgement}
use Rattle.check_report.specs.Chosen.{Judged, is_chosen}
use Rattle.check_report.specs.Errors.{brings_error}
use Rattle.check_report.specs.Reports.{Case, case, case_text, cases_text, closing_text, opening_text, report_front, judgements_of}
use Rattle.check_report.specs.Verdicts.{counts_of, total}
use Rattle.evaluation.specs.declared.plan.Plan.{Plan}
use Rattle.live.specs.Records as records
use Rattle.driver.specs.Stopping.{StopsAll, in_world}
use Rattle.driver.proofs.Overs.{stops_at}
use Rattle.sheet_check.specs.Check.{IsCopy, Passage, passage, world_at_break}
use Rattle.sheet_check.specs.Driven.{DriveBroke, DrivenToEnd, DrivenUpTo, broke_off, checking_plan, unplanned}
use Rattle.sheet_check.specs.Evaluated.{fault_on_copy, reason_shown_in}
use Rattle.sheet_check.specs.Together as together
use Rattle.sheet_check.specs.Together.{EvaluatedTogether, FieldCompared, FieldsCompared, SideBySide, TellsTogether, TogetherChecked, TogetherTells, came_by, checked_ids, checking, cleared}
use Rattle.sheet_check.specs.inside.Checking.{CountsWritten, Withheld, counted_on, unremembered, unwritten}
use Rattle.sheet_check.specs.inside.Comparing.{BrokeTogether, CameTogether, Comparing, EndedTogether, FailedTogether, FieldReported, FieldsReported, LeavesReport, OnCleared, ReportBroke, ReportedTogether}
use Rattle.sheet_check.specs.declared.marks.Mark.{Mark}
use Rattle.sheet_check.proofs.Counting.{as_judged, cases-more, front-more}
use Rattle.sheet_check.proofs.Ends.{StopsNumbered}

-- A field.

pub one_passed : (m : Comparing) (field : Field) (a : Option (List ℕ)) (counts : VerdictCounts) → is_chosen m.chosen field ≡ false → FieldReported m field a a counts counts
one_passed m field a counts none = ([], together.passed none, refl, Appends-nil a)

pub one_compared : (m : Comparing) (number : ℕ) (field : Field) (a b : Option (List ℕ)) (counts after : VerdictCounts) (j : Judgement) → is_chosen m.chosen field ≡ true
    → Judged m.chosen field (came_by m.world m.marks field.id) j.verdict → j.error ≡ brings_error (came_by m.world m.marks field.id)
    → Appends a b (case_text m.format number (case field (came_by m.world m.marks field.id) (reason_shown_in m.world field.id) j.verdict None))
    → number ≡ total counts + 1 → after ≡ counted_on (j ∷ []) counts
    → FieldReported m field a b counts after
one_compared m number field a b counts after j some judged error wrote place is =
    let one = case field (came_by m.world m.marks field.id) (reason_shown_in m.world field.id) j.verdict None in
    let whole : Appends a b (case_text m.format number one ++ []) = subst (Appends a b) (sym (append-nil (case_text m.format number one))) wrote in
    (one ∷ [], together.compared j.verdict some judged, is ∙ as_judged j (came_by m.world m.marks field.id) counts error, subst (λ n. Appends a b (cases_text m.format n (one ∷ []))) place whole)

-- Fields.

compared-more : (chosen : Chosen) (w : World) (marks : List Mark) (gone : List Field) (field : Field) (cases more : List Case) → FieldsCompared chosen w marks gone cases → FieldCompared chosen w marks field more
    → FieldsCompared chosen w marks (gone ++ field ∷ []) (cases ++ more)
compared-more chosen w marks [] field cases more h p = (more, [], p, refl, ap (λ x. x ++ more) h ∙ sym (append-nil more))
compared-more chosen w marks (x ∷ xs) field cases more h p =
    (h.0, h.1 ++ more, h.2, compared-more chosen w marks xs field h.1 more h.3 p, ap (λ y. y ++ more) h.4 ∙ append_assoc h.0 h.1 more)

-- The first fields were compared, and these are left.
pub record ComparedSoFar (m : Comparing) (all left : List Field) (a b : Option (List ℕ)) (counts : VerdictCounts) : Type 0 where
  pub gone : List Field
  pub cases : List Case
  pub split : all ≡ gone ++ left
  pub ran : FieldsCompared m.chosen m.world m.marks gone cases
  pub counted : counts ≡ counts_of (judgements_of cases)
  pub wrote : Appends a b (report_front m.format cases)

pub none_compared : (m : Comparing) (all left : List Field) (a b : Option (List ℕ)) (counts : VerdictCounts) → left ≡ all → counts ≡ counts_of [] → Appends a b (opening_text m.format) → ComparedSoFar m all left a b counts
none_compared m all left a b counts e is opened =
    record { gone = []; cases = []; split = sym e; ran = refl; counted = is; wrote = subst (Appends a b) (sym (append-nil (opening_text m.format))) opened }

module _ (m : Comparing) (all left : List Field) (field : Field) (others : List Field) (a b e : Option (List ℕ)) (counts : VerdictCounts) (is : left ≡ field ∷ others)
    (so : ComparedSoFar m all left a b counts) where
  pub more_compared : (after : VerdictCounts) → FieldReported m field b e counts after → ComparedSoFar m all others a e after
  more_compared after p = record {
    gone = so.gone ++ field ∷ [];
    cases = so.cases ++ p.0;
    split = so.split ∙ ap (λ x. so.gone ++ x) is ∙ sym (append_assoc so.gone (field ∷ []) others);
    ran = compared-more m.chosen m.world m.marks so.gone field so.cases p.0 so.ran p.1;
    counted = p.2 ∙ ap (λ x. counted_on (judgements_of p.0) x) so.counted ∙ sym (cases-more so.cases p.0);
    wrote = subst (Appends a e) (sym (front-more m.format so.cases p.0 counts so.counted))
        (Appends-trans a b e (report_front m.format so.cases) (cases_text m.format (total counts + 1) p.0) so.wrote p.3);
  }

  leaves : (why : RunFault) → Withheld b e why → LeavesReport m.format so.cases a e why
  leaves why (unremembered is p) = inl (is, subst (Appends a e) (append-nil (report_front m.format so.cases)) (Appends-trans a b e (report_front m.format so.cases) [] so.wrote p))
  leaves why (unwritten is) = inr is

  pub report_broke : (why : RunFault) → Withheld b e why → ReportBroke m all a e why
  report_broke why p = record { gone = so.gone; left = left; split = so.split; cases = so.cases; compared = so.ran; wrote = leaves why p }

pub all_compared : (m : Comparing) (all left : List Field) (a b : Option (List ℕ)) (counts : VerdictCounts) → left ≡ [] → ComparedSoFar m all left a b counts → FieldsReported m all a b counts
all_compared m all left a b counts e so =
    let same : so.gone ≡ all = sym (so.split ∙ ap (λ x. so.gone ++ x) e ∙ append-nil so.gone) in
    (so.cases, subst (λ fs. FieldsCompared m.chosen m.world m.marks fs so.cases) same so.ran, so.counted, so.wrote)

-- what stands first couldn't be written
pub unopened_report : (m : Comparing) (all : List Field) (a b : Option (List ℕ)) (why : RunFault) → why ≡ fault.Output → ReportBroke m all a b why
unopened_report m all a b why is = record { gone = []; left = all; split = refl; cases = []; compared = refl; wrote = inr is }

-- The plan of the evaluation.

module _ {C : Type 0} (o : SideBySide C) (fields : List Field) (s : At C) (h : HostView) (c : C) (plan : Plan) (is : plan ≡ checking_plan (checked_ids o.chosen fields) o.way.limit o.jobs) where
  pub came_together : (marks : List Mark) → (t : World) × DrivenToEnd o.way plan s marks (at t c h.store.disk) × IsHost h t → CameTogether o fields s h c marks
  came_together marks q = subst (λ (p : Plan). (t : World) × DrivenToEnd o.way p s marks (at t c h.store.disk) × IsHost h t) is q

  pub broke_together : (f why : RunFault) → why ≡ fault_on_copy f → DrivenUpTo o.way plan s h c f → BrokeTogether o fields s h c why
  broke_together f why same q = (f, same, broke_off (subst (λ (p : Plan). DrivenUpTo o.way p s h c f) is q))

-- Where it ends.

module _ {C : Type 0} (o : SideBySide C) (sheet : Contents) (w : World) (h g : HostView) (copied : IsCopy (cleared o.chosen sheet.fields sheet) w h.store.disk)
    (c m d : C) (a b : Option (List ℕ)) (stops : StopsIn o.way.after g m d)
    (numbered : StopsNumbered o.way.after g m d) where
  evaluated : (marks : List Mark) (came : CameTogether o sheet.fields (at w c h.store.disk) g m marks) → EvaluatedTogether o sheet c d came.0 marks
  evaluated marks came = record {
    start = w;
    copy = h.store.disk;
    copied = copied;
    came = at came.0 m g.store.disk;
    world_is = refl;
    evaluated = came.1;
    stops = stops.0 came.0 came.2;
  }

  pub together_ended : (counts : VerdictCounts) → ReportedTogether o sheet.fields (at w c h.store.disk) (records.left g m a b) counts → EndedTogether o sheet (passage c d a b) counts
  together_ended counts q = let came = q.1.0 in let reported = q.1.1 in (came.0, q.0, evaluated q.0 came, (reported.0, reported.1, reported.2, reported.3))

  stopped : (why : RunFault) (b : DriveBroke o.way (checking o sheet.fields) (at w c h.store.disk) g m why) → StopsAll o.way.after g (world_at_break b) m d
  stopped why (unplanned is same stands) = in_world (stops.0 w stands)
  stopped why (broke_off b) = stops_at o.way.after g b.world m d (record { working = stops.0; gone = stops.1; numbered = numbered }) b.stands

  reported-broke : (marks : List Mark) (came : CameTogether o sheet.fields (at w c h.store.disk) g m marks) (why : RunFault) (F : ReportFormat) (cases : List Case) (gone left : List Field) → sheet.fields ≡ gone ++ left
      → FieldsCompared o.chosen came.0 marks gone cases → LeavesReport o.format cases a b why → TellsTogether o sheet (passage c d a b) ⊥ why
  reported-broke marks came why F cases gone left split compared (inl p) =
      together.no_memory cases p.0 (record { leads = came.0; marks = marks; evaluated = evaluated marks came; gone = gone; left = left; split = split; compared = compared }) p.1
  reported-broke marks came why F cases gone left split compared (inr p) =
      together.unwritten cases p (record { leads = came.0; marks = marks; evaluated = evaluated marks came; gone = gone; left = left; split = split; compared = compared })

  pub together_failed : (why : RunFault) → FailedTogether o sheet.fields (at w c h.store.disk) (records.left g m a b) why → TellsTogether o sheet (passage c d a b) ⊥ why
  together_failed why (inl q) =
      let broke = q.0 in
      together.broke
      (record { start = w; copy = h.store.disk; copied = copied; host = g; sources = m; cause = broke.0; is = broke.1; broke = broke.2; stops = stopped broke.0 broke.2 })
      q.1
  together_failed why (inr q) = let p = q.1.1 in reported-broke q.0 q.1.0 why o.format p.cases p.gone p.left p.split p.compared p.wrote

-- The whole.

module _ {C : Type 0} (o : SideBySide C) (sheet : Contents) (c d : C) (a b : Option (List ℕ)) where
  pub reported_together : (e : Option (List ℕ)) (counts : VerdictCounts) → EndedTogether o sheet (passage c d a b) counts → Appends b e (closing_text o.format counts) → TogetherChecked o sheet (passage c d a e) counts
  reported_together e counts q reported = let p = q.3 in record {
    leads = q.0;
    marks = q.1;
    evaluated = q.2;
    cases = p.0;
    compared = p.1;
    counted = p.2;
    wrote = Appends-trans a b e (report_front o.format p.0) (closing_text o.format (counts_of (judgements_of p.0))) p.3 (subst (λ x. Appends b e (closing_text o.format x)) p.2 reported);
  }

  pub counts_unwritten : (e : Option (List ℕ)) (counts : VerdictCounts) (nothing : Type 0) (why : RunFault) → EndedTogether o sheet (passage c d a b) counts → why ≡ fault.Output → TellsTogether o sheet (passage c d a e) nothing why
  counts_unwritten e counts nothing why q is =
      let p = q.3 in together.unwritten p.0 is (record { leads = q.0; marks = q.1; evaluated = q.2; gone = sheet.fields; left = []; split = sym (append-nil sheet.fields); compared = p.1 })

pub tells_on : {C : Type 0} (o : SideBySide C) (sheet : Contents) (q : Passage C) (nothing : Type 0) (why : RunFault) → TellsTogether o sheet q ⊥ why → TellsTogether o sheet q nothing why
tells_on o sheet q nothing why (together.not_begun is none) = absurd none
tells_on o sheet q nothing why (together.broke p wrote) = together.broke p wrote
tells_on o sheet q nothing why (together.no_memory cases is p wrote) = together.no_memory cases is p wrote
tells_on o sheet q nothing why (together.unwritten cases is p) = together.unwritten cases is p

-- The counts were written, or there was no memory for the copy.
pub together_answered : {C : Type 0} (o : SideBySide C) (sheet : Contents) (c d : C) (a b e : Option (List ℕ)) (nothing : Type 0) (answer : Option (Result VerdictCounts RunFault)) (result : Result VerdictCounts RunFault)
    → IfSome answer (OnCleared o sheet (passage c d a b)) → IfNone answer nothing → CountsWritten o.format b e answer result → TogetherTells o sheet (passage c d a e) nothing result
together_answered o sheet c d a b e nothing None result some none is = subst (TogetherTells o sheet (passage c d a e) nothing) (sym is) (together.not_begun refl none)
together_answered o sheet c d a b e nothing (Some (Ok counts)) result some none (inl (is, closing)) =
    subst (TogetherTells o sheet (passage c d a e) nothing) (sym is) (reported_together o sheet c d a b e counts some.0 closing)
together_answered o sheet c d a b e nothing (Some (Ok counts)) result some none (inr is) =
    subst (TogetherTells o sheet (passage c d a e) nothing) (sym is) (counts_unwritten o sheet c d a b e counts nothing fault.Output some.0 refl)
together_answered o sheet c d a b e nothing (Some (Err why)) result some none (is, same) =
    subst (TogetherTells o sheet (passage c d a e) nothing) (sym is)
    (subst (λ x. TellsTogether o sheet (passage c d a x) nothing why) (sym same) (tells_on o sheet (passage c d a b) nothing why some.1))
