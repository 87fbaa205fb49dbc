-- Fields that are checked, one after another.
use Rattle.std.proofs.Common.{◌≡◌, ◌+◌, inl, inr, ℕ, true, false, List, [], ◌∷◌, ◌++◌, Option, Some, refl, ap, sym, ◌∙◌, subst, append_assoc, append-nil}
use Rattle.std.proofs.KnownBytes.{Appends-trans, Appends-nil}
use Rattle.std.specs.Io.KnownBytes.{Appends}
use Rattle.worksheet.specs.declared.field.Answer.{Answer}
use Rattle.worksheet.specs.declared.field.Field.{Field}
use Rattle.session_engine.specs.World.{World}
use Rattle.session_engine.specs.Host.{HostView, IsHost}
use Rattle.child_edge.specs.Faithful.{At, at}
use Rattle.offline_programs.specs.declared.fault.RunFault.{RunFault}
use Rattle.offline_programs.specs.declared.fault.RunFault.TheVariants as fault
use Rattle.check_report.specs.declared.verdict.VerdictCounts.{VerdictCounts}
use Rattle.check_report.specs.declared.verdict.Judgement.{Judgement}
use Rattle.sheet_json.specs.declared.checks.Took.{Took}
use Rattle.check_report.specs.Chosen.{is_chosen}
use Rattle.check_report.specs.Reports.{Case, case, case_text, cases_text, opening_text, report_front, judgements_of}
use Rattle.check_report.specs.Verdicts.{counts_of, total}
use Rattle.live.specs.Records as records
use Rattle.sheet_check.specs.Check.{FirstChosen, FirstLed, evaluated, still}
use Rattle.evaluation.specs.declared.plan.Plan.{Plan}
use Rattle.sheet_check.specs.Driven.{DrivenToEnd, DrivenUpTo, broke_off, one_plan}
use Rattle.sheet_check.specs.Evaluated.{OneByOne, Way, fault_on_copy, reason_shown_in}
use Rattle.sheet_check.specs.Fields.{Evaluated, FieldChecked, FieldsChecked, checked, passed}
use Rattle.sheet_check.specs.declared.marks.Mark.{Mark}
use Rattle.sheet_check.specs.inside.Checking.{CameAlone, EvaluationBroke, FieldFailed, FieldWrote, FieldsFailed, FieldsWrote, FirstFailed, LeavesText, ShownWrote, Withheld, counted_on, question}
use Rattle.sheet_check.specs.inside.Checking as inside
use Rattle.sheet_check.proofs.Counting.{as_judged, cases-more, front-more}
use Rattle.sheet_check.proofs.Own.{of_evaluation}

-- A field.

pub field_passed : {C : Type 0} (o : OneByOne C) (field : Field) (w : World) (h : HostView) (c : C) (a : Option (List ℕ)) (counts : VerdictCounts) → is_chosen o.chosen field ≡ false → IsHost h w
    → FieldWrote o field (at w c h.store.disk) (records.left h c a a) counts counts
field_passed o field w h c a counts none stands = ([], w, passed none, stands, refl, Appends-nil a)

pub field_checked : {C : Type 0} (o : OneByOne C) (number : ℕ) (field : Field) (s : At C) (h : HostView) (c : C) (a b : Option (List ℕ)) (counts after : VerdictCounts)
    (j : Judgement) → is_chosen o.chosen field ≡ true → ShownWrote o (question number field) s (records.left h c a b) j → number ≡ total counts + 1 → after ≡ counted_on (j ∷ []) counts
    → FieldWrote o field s (records.left h c a b) counts after
field_checked o number field s h c a b counts after j some p place is =
    let one = case field p.0 (reason_shown_in p.1 field.id) j.verdict (Some p.2) in
    let wrote : Appends a b (case_text o.format number one ++ []) = subst (Appends a b) (sym (append-nil (case_text o.format number one))) p.7 in (
      one ∷ [],
      p.1,
      checked p.0 p.2 j.verdict (at p.1 c h.store.disk) some p.3 p.5,
      p.4,
      is ∙ as_judged j p.0 counts p.6,
      subst (λ n. Appends a b (cases_text o.format n (one ∷ []))) place wrote,
    )

-- Fields.

unfoldable pub fields-more : {C : Type 0} (o : OneByOne C) (gone : List Field) (field : Field) (s : At C) (cases : List Case) (mid : At C) (more : List Case) (t : At C)
    → FieldsChecked o.way o.chosen gone s cases mid → FieldChecked o.way o.chosen field mid more t → FieldsChecked o.way o.chosen (gone ++ field ∷ []) s (cases ++ more) t
fields-more o [] field s cases mid more t h p = (
  t,
  more,
  [],
  subst (λ m. FieldChecked o.way o.chosen field m more t) h.1 p,
  (refl, refl),
  ap (λ x. x ++ more) h.0 ∙ sym (append-nil more),
)
fields-more o (x ∷ xs) field s cases mid more t h p = (
  h.0,
  h.1,
  h.2 ++ more,
  h.3,
  fields-more o xs field h.0 h.2 mid more t h.4 p,
  ap (λ y. y ++ more) h.5 ∙ append_assoc h.1 h.2 more,
)

-- The first fields were checked, and these are left.
pub record FieldsSoFar {C : Type 0} (o : OneByOne C) (all left : List Field) (s : At C) (h : HostView) (c : C) (a b : Option (List ℕ)) (counts : VerdictCounts) : Type 0 where
  pub gone : List Field
  pub cases : List Case
  pub leads : World
  pub split : all ≡ gone ++ left
  pub ran : FieldsChecked o.way o.chosen gone s cases (at leads c h.store.disk)
  pub stands : IsHost h leads
  pub counted : counts ≡ counts_of (judgements_of cases)
  pub wrote : Appends a b (report_front o.format cases)

pub none_checked : {C : Type 0} (o : OneByOne C) (all left : List Field) (w : World) (h : HostView) (c : C) (a b : Option (List ℕ)) (counts : VerdictCounts) → left ≡ all → counts ≡ counts_of [] → IsHost h w
    → Appends a b (opening_text o.format) → FieldsSoFar o all left (at w c h.store.disk) h c a b counts
none_checked o all left w h c a b counts e is stands opened = record {
  gone = [];
  cases = [];
  leads = w;
  split = sym e;
  ran = (refl, refl);
  stands = stands;
  counted = is;
  wrote = subst (Appends a b) (sym (append-nil (opening_text o.format))) opened;
}

-- what stands first couldn't be written
pub unopened_failed : {C : Type 0} (o : OneByOne C) (all : List Field) (w : World) (h : HostView) (c : C) (a b : Option (List ℕ)) (why : RunFault) → IsHost h w → why ≡ fault.Output
    → FieldsFailed o all (at w c h.store.disk) (records.left h c a b) why
unopened_failed o all w h c a b why stands is = record {
  gone = [];
  left = all;
  split = refl;
  cases = [];
  mid = at w c h.store.disk;
  checked = (refl, refl);
  failed = inside.unwritten w is (still refl) stands;
  wrote = inl is;
}

module _ {C : Type 0} (o : OneByOne C) (all left : List Field) (field : Field) (others : List Field) (s : At C) (h : HostView) (c : C) (a b : Option (List ℕ)) (counts : VerdictCounts) (g : HostView) (d : C)
    (e : Option (List ℕ)) (is : left ≡ field ∷ others) (so : FieldsSoFar o all left s h c a b counts) where
  pub one_checked : (after : VerdictCounts) → FieldWrote o field (at so.leads c h.store.disk) (records.left g d b e) counts after → FieldsSoFar o all others s g d a e after
  one_checked after p = record {
    gone = so.gone ++ field ∷ [];
    cases = so.cases ++ p.0;
    leads = p.1;
    split = so.split ∙ ap (λ x. so.gone ++ x) is ∙ sym (append_assoc so.gone (field ∷ []) others);
    ran = fields-more o so.gone field s so.cases (at so.leads c h.store.disk) p.0 (at p.1 d g.store.disk) so.ran p.2;
    stands = p.3;
    counted = p.4 ∙ ap (λ x. counted_on (judgements_of p.0) x) so.counted ∙ sym (cases-more so.cases p.0);
    wrote = subst (Appends a e) (sym (front-more o.format so.cases p.0 counts so.counted))
        (Appends-trans a b e (report_front o.format so.cases) (cases_text o.format (total counts + 1) p.0) so.wrote p.5);
  }

  pub leaves-on : (why : RunFault) → LeavesText b e [] why → LeavesText a e (report_front o.format so.cases) why
  leaves-on why (inl is) = inl is
  leaves-on why (inr p) = inr (subst (Appends a e) (append-nil (report_front o.format so.cases)) (Appends-trans a b e (report_front o.format so.cases) [] so.wrote p))

  pub fields_failed : (why : RunFault) → FieldFailed o field (at so.leads c h.store.disk) (records.left g d b e) why → FieldsFailed o all s (records.left g d a e) why
  fields_failed why p = record {
    gone = so.gone;
    left = left;
    split = so.split;
    cases = so.cases;
    mid = at so.leads c h.store.disk;
    checked = so.ran;
    failed = subst (λ x. FirstFailed o x (at so.leads c h.store.disk) g d why) (sym is) (p.0 others);
    wrote = leaves-on why p.1;
  }

pub all_checked : {C : Type 0} (o : OneByOne C) (all left : List Field) (s : At C) (h : HostView) (c : C) (a b : Option (List ℕ)) (counts : VerdictCounts) → left ≡ []
    → FieldsSoFar o all left s h c a b counts → FieldsWrote o all s (records.left h c a b) counts
all_checked o all left s h c a b counts e so =
    let same : so.gone ≡ all = sym (so.split ∙ ap (λ x. so.gone ++ x) e ∙ append-nil so.gone) in
    (so.cases, so.leads, subst (λ fs. FieldsChecked o.way o.chosen fs s so.cases (at so.leads c h.store.disk)) same so.ran, so.stands, so.counted, so.wrote)

-- A field that was given to a driver alone.

module _ {C : Type 0} (o : Way C) (id : ℕ) (s : At C) (h : HostView) (c : C) (plan : Plan) (is : plan ≡ one_plan o id) where
  pub came_alone : (marks : List Mark) → (t : World) × DrivenToEnd o plan s marks (at t c h.store.disk) × IsHost h t → CameAlone o id s h c marks
  came_alone marks q = subst (λ (p : Plan). (t : World) × DrivenToEnd o p s marks (at t c h.store.disk) × IsHost h t) is q

  pub broke_alone : (cause why : RunFault) → why ≡ fault_on_copy cause → DrivenUpTo o plan s h c cause → EvaluationBroke o id s h c why
  broke_alone cause why same q =
      let broke = broke_off (subst (λ (p : Plan). DrivenUpTo o p s h c cause) is q) in
      inside.halted cause same (of_evaluation o (one_plan o id) s h c cause why same broke) broke

-- Where a field's evaluation broke off, or couldn't be reported.

module _ {C : Type 0} (o : OneByOne C) (field : Field) (is_one : is_chosen o.chosen field ≡ true) (s : At C) (h : HostView) (c : C) where
  first : (others : List Field) → FirstChosen o.chosen (field ∷ others) field
  first others = record { others = others; is = refl; chosen_is = is_one }

  broke-first : (others : List Field) (why : RunFault) → EvaluationBroke o.way field.id s h c why → FirstFailed o (field ∷ others) s h c why
  broke-first others why (inside.halted cause is of broke) = inside.halted (record { field = field; first = first others; cause = cause; is = is; of = of; broke = broke })
  broke-first others why (inside.unremembered marks is lacks came) = inside.unremembered came.0 is (evaluated field marks (first others) came.1) came.2

  pub evaluation_failed : (a : Option (List ℕ)) (why : RunFault) → EvaluationBroke o.way field.id s h c why → FieldFailed o field s (records.left h c a a) why
  evaluation_failed a why p = ((λ others. broke-first others why p), inr (Appends-nil a))

  -- the field was evaluated, and what came of it couldn't be reported
  pub tell_failed : (came : Option Answer) (took : Took) (t : World) → Evaluated o.way field s came took (at t c h.store.disk) → IsHost h t → (a b : Option (List ℕ)) (why : RunFault) → Withheld a b why → FieldFailed o field s (records.left h c a b) why
  tell_failed came took t e stands a b why p = go p
    where
      led : (others : List Field) → FirstLed o (field ∷ others) s (at t c h.store.disk)
      led others = evaluated field e.marks (first others) e.driven

      go : Withheld a b why → FieldFailed o field s (records.left h c a b) why
      go (inside.unremembered is wrote) = ((λ others. inside.unremembered t is (led others) stands), inr wrote)
      go (inside.unwritten is) = ((λ others. inside.unwritten t is (led others) stands), inl is)
