-- Fields that are checked one after another, where what differs is accepted.
use Rattle.std.proofs.Common.{◌≡◌, ◌+◌, ℕ, List, [], ◌∷◌, ◌++◌, Bool, true, false, Option, Some, None, IsTrue, map, refl, ap, sym, ◌∙◌, subst, append_assoc, append-nil, arith}
use Rattle.std.specs.Prelude.{◌==◌, is_some, cond}
use Rattle.std.specs.List.{AllByRecursion}
use Rattle.std.specs.Option.{option_map_or}
use Rattle.std.proofs.KnownBytes.{Appends-trans, Appends-nil}
use Rattle.std.proofs.lemmas.Grind.{flat_map-append}
use Rattle.std.proofs.lemmas.Bool.Decides.{nat_tests}
use Rattle.std.specs.Io.KnownBytes.{Appends}
use Rattle.disk_model.specs.Disk.{DiskView, InModel, LeavesOnly}
use Rattle.worksheet.specs.declared.op.Op.{Op}
use Rattle.worksheet.specs.declared.field.Answer.{Answer}
use Rattle.worksheet.specs.declared.field.Field.{Field}
use Rattle.worksheet.specs.Contents.{Contents}
use Rattle.worksheet.specs.Checks.{field_in, has_field}
use Rattle.worksheet.specs.Laws.{HasShortPrompt, IsField, OpsMakeWorksheets}
use Rattle.worksheet.specs.Ops.{field_of, next_after, order_after, order_from, sheet_of}
use Rattle.recovery.specs.Sheets.{StoreView}
use Rattle.sheet_check.specs.Kept.{HoldsAll, HoldsBut, IsAmong, Stores}
use Rattle.sheet_check.specs.declared.accept.PutFault.{PutFault}
use Rattle.sheet_check.specs.declared.accept.PutFault.TheVariants as refused
use Rattle.session_engine.specs.World.{World}
use Rattle.session_engine.specs.Host.{HostView, IsHost}
use Rattle.child_edge.specs.Faithful.{At, at}
use Rattle.offline_programs.specs.declared.fault.RunFault.{RunFault}
use Rattle.offline_programs.specs.declared.fault.RunFault.TheVariants as fault
use Rattle.check_report.specs.declared.chosen.Chosen.{Chosen}
use Rattle.check_report.specs.declared.report.ReportFormat.TheVariants as format
use Rattle.check_report.specs.declared.verdict.VerdictCounts.{VerdictCounts}
use Rattle.check_report.specs.declared.verdict.Judgement.{Judgement}
use Rattle.check_report.specs.declared.verdict.Verdict.{Verdict}
use Rattle.check_report.specs.declared.verdict.Verdict.TheVariants as verdict
use Rattle.sheet_json.specs.declared.checks.Took.{Took}
use Rattle.check_report.specs.Chosen.{is_chosen}
use Rattle.check_report.specs.Reports.{Case, case, case_text, cases_text, report_front, judgements_of}
use Rattle.check_report.specs.Verdicts.{counts_of, total}
use Rattle.live.specs.Records as records
use Rattle.sheet_check.specs.Evaluated.{Way, came_if, reason_shown_in, shown_in}
use Rattle.sheet_check.specs.Fields.{Evaluated, FieldChecked, FieldsChecked, checked, passed}
use Rattle.sheet_check.specs.declared.accept_shown.Finding.{Finding}
use Rattle.sheet_check.specs.Accept.{FiledAll, FiledBut, EachReported, accepted, accepted_answer, accepted_of, answer_ops, filing, to_accept}
use Rattle.sheet_check.specs.inside.Accepting.{FieldBroke, FieldLast, FieldsBroke, FieldsTook, FieldsUpTo, Finds, GoesOn, NotPut, NotTaken, Putting, Puts, PutsNothing, ShownTook, Whatever, broken, early, fault_of_acceptance, full, putting, unwritten}
use Rattle.sheet_check.specs.inside.Accepting as inside
use Rattle.sheet_check.specs.inside.Checking.{EvaluationBroke, FieldFailed, FieldWrote, FirstFailed, counted_on, question}
use Rattle.sheet_check.specs.inside.Checking as checking
use Rattle.sheet_check.proofs.Counting.{as_judged, cases-more, front-more}
use Rattle.sheet_check.proofs.Fields.{FieldsSoFar, fields-more, leaves-on}
use Rattle.sheet_check.proofs.Ordering.{one_more, reported_now, reports_stay, stores_here}
use Rattle.sheet_check.proofs.Own.{never_output}

-- What is accepted takes no field away.

order-put : (next : ℕ) (ids : List ℕ) (id : ℕ) (answer : Option Answer) (more : List Op) → order_from next ids (answer_ops id answer ++ more) ≡ order_from next ids more
order-put next ids id None more = refl
order-put next ids id (Some answer) more = refl

order-accepted : (next : ℕ) (ids : List ℕ) (cases : List Case) → order_from next ids (accepted cases) ≡ ids
order-accepted next ids [] = refl
order-accepted next ids (c ∷ cases) = order-put next ids c.field.id (accepted_answer c.came c.verdict) (accepted cases) ∙ order-accepted next ids cases

order-following : (next : ℕ) (ids : List ℕ) (ops : List Op) (cases : List Case) → order_from next ids (ops ++ accepted cases) ≡ order_from next ids ops
order-following next ids [] cases = order-accepted next ids cases
order-following next ids (o ∷ ops) cases = order-following (next_after next o) (order_after next o ids) ops cases

abbrev is-there : List ℕ → ℕ → Bool
is-there [] id = false
is-there (other ∷ ids) id = cond (other == id) true (is-there ids id)

there-by : (ops : List Op) (ids : List ℕ) (id : ℕ) → is_some (field_in (map (field_of ops) ids) id) ≡ is-there ids id
there-by ops [] id = refl
there-by ops (other ∷ ids) id = go (other == id) (there-by ops ids id)
  where
    go : (b : Bool) → is_some (field_in (map (field_of ops) ids) id) ≡ is-there ids id → is_some (cond b (Some (field_of ops other)) (field_in (map (field_of ops) ids) id)) ≡ cond b true (is-there ids id)
    go true rest = refl
    go false rest = rest

pub has_still : (ops : List Op) (cases : List Case) (id : ℕ) → has_field (sheet_of (ops ++ accepted cases)) id ≡ has_field (sheet_of ops) id
has_still ops cases id =
    there-by (ops ++ accepted cases) (order_from 1 [] (ops ++ accepted cases)) id
    ∙ ap (λ (ids : List ℕ). is-there ids id) (order-following 1 [] ops cases) ∙ sym (there-by ops (order_from 1 [] ops) id)

has-first : (gone : List Field) (field : Field) (others : List Field) → is_some (field_in (gone ++ field ∷ others) field.id) ≡ true
has-first [] field others =
    let same : (field.id == field.id) ≡ true = grind (arith, nat_tests) in
    rw same refl
has-first (x ∷ gone) field others = go (x.id == field.id) (has-first gone field others)
  where
    go : (b : Bool) → is_some (field_in (gone ++ field ∷ others) field.id) ≡ true → is_some (cond b (Some x) (field_in (gone ++ field ∷ others) field.id)) ≡ true
    go true rest = refl
    go false rest = rest

-- a field of the worksheet is there in the store
pub there_in : (sheet : Contents) (gone : List Field) (field : Field) (left others : List Field) (store : StoreView) → sheet.fields ≡ gone ++ left → left ≡ field ∷ others → GoesOn sheet store → has_field store.sheet.contents field.id ≡ true
there_in sheet gone field left others store split is on =
    let first : has_field sheet field.id ≡ true = ap (λ (fs : List Field). is_some (field_in fs field.id)) (split ∙ ap (λ (fs : List Field). gone ++ fs) is) ∙ has-first gone field others in
    ap (λ (c : Contents). has_field c field.id) on.stores.contents ∙ has_still on.ops on.cases field.id ∙ ap (λ (c : Contents). has_field c field.id) (sym on.is) ∙ first

-- What came has a short prompt.

found-short : (fields : List Field) → AllByRecursion IsField fields → (id : ℕ) → HasShortPrompt (option_map_or (λ field. field.answer) (field_in fields id) None)
found-short [] all id = tt
found-short (field ∷ fields) all id = go (field.id == id) (found-short fields all.1 id)
  where
    go : (b : Bool) → HasShortPrompt (option_map_or (λ field. field.answer) (field_in fields id) None) → HasShortPrompt (option_map_or (λ field. field.answer) (cond b (Some field) (field_in fields id)) None)
    go true rest = all.0.prompt
    go false rest = rest

short-if : (asked : Bool) (came : Option Answer) → HasShortPrompt came → HasShortPrompt (came_if asked came)
short-if true came short = short
short-if false came short = tt

short-accepted : (v : Verdict) (came : Option Answer) → HasShortPrompt came → HasShortPrompt (accepted_answer came v)
short-accepted verdict.Same came short = tt
short-accepted verdict.Differs came short = short
short-accepted verdict.Unanswered came short = tt
short-accepted verdict.LeftOut came short = tt
short-accepted verdict.New came short = short

pub short_in : OpsMakeWorksheets → (h : HostView) (w : World) → IsHost h w → (asked : Bool) (id : ℕ) (v : Verdict) → HasShortPrompt (accepted_answer (came_if asked (shown_in w id)) v)
short_in law h w host asked id v = short-accepted v (came_if asked (shown_in w id)) (short-if asked (shown_in w id) (found-short (sheet_of w.ops).fields (law w.ops host.stands.allowed).fields id))

-- Why an answer wasn't accepted.

pub evaluation-reported : {C : Type 0} (o : Way C) (id : ℕ) (s : At C) (h : HostView) (c : C) (why : RunFault) → EvaluationBroke o id s h c why → why ≡ fault.Output → ⊥
evaluation-reported o id s h c why (checking.halted cause is of broke) e = never_output why of e
evaluation-reported o id s h c why (checking.unremembered marks is lacks came) e = let no : fault.OutOfMemory ≡ fault.Output = sym is ∙ e in cc

module _ {C : Type 0} (o : Way C) (chosen : Chosen) (field : Field) (s : At C) (h : HostView) (c : C) (a : Option (List ℕ)) (y : Putting) where
  -- the evaluation broke off
  pub evaluation_broke : (why : RunFault) → EvaluationBroke o field.id s h c why → FieldFailed (to_accept o chosen) field s (records.left h c a a) why → PutsNothing y → FieldBroke (to_accept o chosen) field s (records.left h c a a) y why
  evaluation_broke why broke failed stores = early failed (evaluation-reported o field.id s h c why broke) stores

  -- there was no memory for what came
  pub memory_broke : FieldFailed (to_accept o chosen) field s (records.left h c a a) fault.OutOfMemory → PutsNothing y → FieldBroke (to_accept o chosen) field s (records.left h c a a) y fault.OutOfMemory
  memory_broke failed stores = early failed (λ e. let no : fault.OutOfMemory ≡ fault.Output = e in cc) stores

  -- what came wasn't put in
  put_broke : (last : Case) (cause : PutFault) → FieldFailed (to_accept o chosen) field s (records.left h c a a) fault.OutOfMemory → FieldLast (to_accept o chosen) field s h c last
      → Whatever y (λ x. NotPut x (accepted_of last) cause) → FieldBroke (to_accept o chosen) field s (records.left h c a a) y (fault_of_acceptance cause)
  put_broke last refused.Full failed came put = full last refl came refl put
  put_broke last refused.OutOfMemory failed came put = memory_broke failed put
  put_broke last refused.Disk failed came put = broken last refl came refl put

  -- what came wasn't accepted, or not reported
  pub take_broke : (last : Case) (ones : List Op) (b : Option (List ℕ)) (why : RunFault) → FieldFailed (to_accept o chosen) field s (records.left h c a a) fault.OutOfMemory → FieldLast (to_accept o chosen) field s h c last → ones ≡ accepted_of last
      → NotTaken y ones a b why → FieldBroke (to_accept o chosen) field s (records.left h c a b) y why
  take_broke last ones b why failed came is (inside.not_put cause why-is put same) =
      subst (FieldBroke (to_accept o chosen) field s (records.left h c a b) y) (sym why-is)
      (subst (λ (b : Option (List ℕ)). FieldBroke (to_accept o chosen) field s (records.left h c a b) y (fault_of_acceptance cause)) (sym same)
      (put_broke last cause failed came (subst (λ (os : List Op). Whatever y (λ x. NotPut x os cause)) is put)))
  take_broke last ones b why failed came is (inside.unwritten output-is put) = unwritten last output-is came (subst (Puts y) is put)

-- A field.

pub shown_took : {C : Type 0} (o : Way C) (chosen : Chosen) (field : Field) (s : At C) (h : HostView) (c : C) (a b : Option (List ℕ)) (y : Putting)
    (came : Option Answer) (took : Took) (t : World) (found : Finding) (j : Judgement) → Evaluated o field s came took (at t c h.store.disk) → IsHost h t
    → Finds chosen field came (reason_shown_in t field.id) found → j ≡ found.judgement
    → Puts y (answer_ops field.id found.answer) → Appends a b found.text.items
    → ShownTook (to_accept o chosen) (question 0 field) s (records.left h c a b) y j
shown_took o chosen field s h c a b y came took t found j evaluated stands f is put wrote =
    subst (ShownTook (to_accept o chosen) (question 0 field) s (records.left h c a b) y) (sym is) (
      (came, t, took, evaluated, stands, f.judged, f.error, subst (Appends a b) f.reported wrote),
      subst (λ (x : Option Answer). Puts y (answer_ops field.id x)) f.taken put,
    )

pub passed_took : {C : Type 0} (o : Way C) (chosen : Chosen) (field : Field) (w : World) (h : HostView) (c : C) (a : Option (List ℕ)) (store : StoreView) (counts : VerdictCounts)
    → is_chosen chosen field ≡ false → IsHost h w
    → (wrote : FieldWrote (to_accept o chosen) field (at w c h.store.disk) (records.left h c a a) counts counts)
    × Puts (putting store store) (accepted wrote.0)
passed_took o chosen field w h c a store counts none stands =
    (([], w, passed none, stands, refl, Appends-nil a), λ ops more disk stores. subst (λ (os : List Op). Stores ops os disk store) (sym (append-nil more)) stores)

pub checked_took : {C : Type 0} (o : Way C) (chosen : Chosen) (field : Field) (s : At C) (h : HostView) (c : C) (a b : Option (List ℕ)) (y : Putting)
    (counts after : VerdictCounts) (j : Judgement) → is_chosen chosen field ≡ true
    → ShownTook (to_accept o chosen) (question 0 field) s (records.left h c a b) y j → after ≡ counted_on (j ∷ []) counts
    → (wrote : FieldWrote (to_accept o chosen) field s (records.left h c a b) counts after) × Puts y (accepted wrote.0)
checked_took o chosen field s h c a b y counts after j some p is =
    let q = p.0 in
    let one = case field q.0 (reason_shown_in q.1 field.id) j.verdict (Some q.2) in (
      (
        one ∷ [],
        q.1,
        checked q.0 q.2 j.verdict (at q.1 c h.store.disk) some q.3 q.5,
        q.4,
        is ∙ as_judged j q.0 counts q.6,
        subst (Appends a b)
            (sym (append-nil (case_text format.Accepting 0 one))) q.7,
      ),
      subst (Puts y) (sym (append-nil (accepted_of one))) p.1,
    )

-- Fields.

-- some of the first fields were checked and what differs of them accepted, and these are left
pub record TookSoFar {C : Type 0} (o : Way C) (chosen : Chosen) (all left : List Field) (s : At C) (h : HostView) (c : C) (a b : Option (List ℕ))
    (held : Option (List ℕ) → DiskView → Type 0) (ops : List Op) (disk : DiskView) (store : StoreView) (counts : VerdictCounts) : Type 0 where
  pub so : FieldsSoFar (to_accept o chosen) all left s h c a b counts
  pub kept : Stores ops (accepted so.cases) disk store
  pub order : EachReported (filing held ops disk store.disk) a (accepted so.cases) [] so.cases

pub none_took : {C : Type 0} (o : Way C) (chosen : Chosen) (all left : List Field) (w : World) (h : HostView) (c : C) (a : Option (List ℕ)) (held : Option (List ℕ) → DiskView → Type 0) (ops : List Op) (disk : DiskView) (store : StoreView) (counts : VerdictCounts) → left ≡ all → counts ≡ counts_of [] → IsHost h w
    → Stores ops [] disk store → TookSoFar o chosen all left (at w c h.store.disk) h c a a held ops disk store counts
none_took o chosen all left w h c a held ops disk store counts e is stands stores = record {
  so = record { gone = []; cases = []; leads = w; split = sym e; ran = (refl, refl); stands = stands; counted = is; wrote = Appends-nil a };
  kept = stores;
  order = tt;
}

accepted-more : (cases more : List Case) → accepted cases ++ accepted more ≡ accepted (cases ++ more)
accepted-more cases more = sym (flat_map-append accepted_of cases more)

pub goes_further : (sheet : Contents) (store new : StoreView) (on : GoesOn sheet store) (cases : List Case) → Stores on.ops (accepted on.cases ++ accepted cases) on.disk new → GoesOn sheet new
goes_further sheet store new on cases stores = record {
  ops = on.ops;
  cases = on.cases ++ cases;
  disk = on.disk;
  is = on.is;
  stores = subst (λ (os : List Op). Stores on.ops os on.disk new) (accepted-more on.cases cases) stores;
}

-- a field that has a case is one of those that are checked
was-chosen : {C : Type 0} (o : Way C) (chosen : Chosen) (field : Field) (s : At C) (last : Case) (t : At C) → FieldChecked o chosen field s (last ∷ []) t → is_chosen chosen field ≡ true
was-chosen o chosen field s last t (checked came took verdict u some evaluated judged) = some

module _ {C : Type 0} (o : Way C) (chosen : Chosen) (all left : List Field) (field : Field) (others : List Field) (s : At C) (h : HostView) (c : C)
    (a b : Option (List ℕ)) (held : Option (List ℕ) → DiskView → Type 0) (ops : List Op) (disk : DiskView) (store : StoreView)
    (counts : VerdictCounts) (g : HostView) (d : C) (e : Option (List ℕ)) (new : StoreView) (is : left ≡ field ∷ others) (taken : TookSoFar o chosen all left s h c a b held ops disk store counts) where
  so : FieldsSoFar (to_accept o chosen) all left s h c a b counts
  so = taken.so

  split-on : all ≡ (taken.so.gone ++ field ∷ []) ++ others
  split-on = taken.so.split ∙ ap (λ x. taken.so.gone ++ x) is ∙ sym (append_assoc taken.so.gone (field ∷ []) others)

  abbrev put-so : List Op
  put-so = accepted taken.so.cases

  here : Stores (ops ++ put-so) [] store.disk store
  here = stores_here ops put-so disk store taken.kept

  model : IsTrue disk.keeps_model → IsTrue store.disk.keeps_model
  model keeps = subst IsTrue (sym taken.kept.disk.same.keeps_model) keeps

  -- what was reported stays
  stay : (ones : List Op) → InModel store.disk (LeavesOnly (IsAmong (ops ++ put-so) ones) store.disk.history new.disk.history)
      → EachReported (filing held ops disk new.disk) a (put-so ++ ones) [] taken.so.cases
  stay ones step = reports_stay held a ops disk store.disk new.disk put-so ones (λ keeps. step (model keeps)) [] taken.so.cases taken.order

  stay-all : InModel store.disk (LeavesOnly (IsAmong (ops ++ put-so) []) store.disk.history new.disk.history)
      → EachReported (filing held ops disk new.disk) a put-so [] taken.so.cases
  stay-all step = subst (λ (os : List Op). EachReported (filing held ops disk new.disk) a os [] taken.so.cases) (append-nil put-so) (stay [] step)

  -- so does it with one case more
  one-reported : (one : Case) → Puts (putting store new) (accepted_of one) → held b new.disk → FiledAll (filing held ops disk new.disk) a (taken.so.cases ++ one ∷ [])
  one-reported one put stamped =
      let all : put-so ++ accepted_of one ≡ accepted (taken.so.cases ++ one ∷ []) =
      ap (λ (os : List Op). put-so ++ os) (sym (append-nil (accepted_of one))) ∙ accepted-more taken.so.cases (one ∷ []) in
      let holds = subst (λ (os : List Op). HoldsAll ops os disk new.disk) all (put ops put-so disk taken.kept).disk in
      let before = subst (λ (os : List Op). EachReported (filing held ops disk new.disk) a os [] taken.so.cases) all
      (stay (accepted_of one) (put (ops ++ put-so) [] store.disk here).disk.moments) in (
        holds,
        one_more (filing held ops disk new.disk) a (accepted (taken.so.cases ++ one ∷ [])) [] taken.so.cases one before
            (reported_now held a b ops disk new.disk taken.so.cases one taken.so.wrote stamped holds),
      )

  -- a field was passed over, or checked and reported
  in-order : (cases : List Case) (t : At C) → FieldChecked o chosen field (at taken.so.leads c h.store.disk) cases t → Puts (putting store new) (accepted cases) → (is_chosen chosen field ≡ true → held b new.disk)
      → EachReported (filing held ops disk new.disk) a (accepted (taken.so.cases ++ cases)) [] (taken.so.cases ++ cases)
  in-order cases t (passed none) put stamped =
      subst (λ (cs : List Case). EachReported (filing held ops disk new.disk) a (accepted cs) [] cs) (sym (append-nil taken.so.cases))
      (stay-all (put (ops ++ put-so) [] store.disk here).disk.moments)
  in-order cases t (checked came took verdict u some evaluated judged) put stamped =
      let one = case field came (reason_shown_in u.world field.id) verdict (Some took) in
      (one-reported one (subst (Puts (putting store new)) (append-nil (accepted_of one)) put) (stamped some)).1

  pub one_took : (after : VerdictCounts) → (wrote : FieldWrote (to_accept o chosen) field (at taken.so.leads c h.store.disk) (records.left g d b e) counts after) × Puts (putting store new) (accepted wrote.0)
      → (is_chosen chosen field ≡ true → held b new.disk) → TookSoFar o chosen all others s g d a e held ops disk new after
  one_took after q stamped =
      let p = q.0 in
      record {
        so = record {
          gone = taken.so.gone ++ field ∷ [];
          cases = taken.so.cases ++ p.0;
          leads = p.1;
          split = split-on;
          ran = fields-more (to_accept o chosen) taken.so.gone field s taken.so.cases (at taken.so.leads c h.store.disk) p.0 (at p.1 d g.store.disk) taken.so.ran p.2;
          stands = p.3;
          counted = p.4 ∙ ap (λ x. counted_on (judgements_of p.0) x) taken.so.counted ∙ sym (cases-more taken.so.cases p.0);
          wrote = subst (Appends a e) (sym (front-more format.Accepting taken.so.cases p.0 counts taken.so.counted))
              (Appends-trans a b e (report_front format.Accepting taken.so.cases) (cases_text format.Accepting (total counts + 1) p.0) taken.so.wrote p.5);
        };
        kept = subst (λ (os : List Op). Stores ops os disk new) (accepted-more taken.so.cases p.0) (q.1 ops put-so disk taken.kept);
        order = in-order p.0 (at p.1 d g.store.disk) p.2 q.1 stamped;
      }

  up-to : (last : Case) → FieldLast (to_accept o chosen) field (at taken.so.leads c h.store.disk) g d last → FieldsUpTo (to_accept o chosen) all s g d (taken.so.cases ++ last ∷ [])
  up-to last p = record {
    gone = taken.so.gone ++ field ∷ [];
    left = others;
    split = split-on;
    leads = p.0;
    checked = fields-more (to_accept o chosen) taken.so.gone field s taken.so.cases (at taken.so.leads c h.store.disk) (last ∷ []) (at p.0 d g.store.disk) taken.so.ran p.1;
    stands = p.2;
  }

  reported-so : e ≡ b → Appends a e (report_front format.Accepting taken.so.cases)
  reported-so same = subst (λ (x : Option (List ℕ)). Appends a x (report_front format.Accepting taken.so.cases)) (sym same) taken.so.wrote

  -- nothing was put
  nothing-more : PutsNothing (putting store new) → FiledAll (filing held ops disk new.disk) a taken.so.cases
  nothing-more none = ((none ops put-so disk taken.kept).disk, stay-all (none (ops ++ put-so) [] store.disk here).disk.moments)

  -- the disk failed at one
  but-one : (last : Case) (one : Op) → accepted_of last ≡ one ∷ [] → Whatever (putting store new) (λ x. NotPut x (accepted_of last) refused.Disk) → FiledBut (filing held ops disk new.disk) a taken.so.cases one
  but-one last one is put =
      let there = put ops put-so disk taken.kept in
      let since = put (ops ++ put-so) [] store.disk here in
      let same : there.0 ∷ [] ≡ one ∷ [] = sym there.1 ∙ is in
      let the_same : there.0 ≡ one = cc in (
        subst (λ (o : Op). HoldsBut ops put-so o disk new.disk) the_same there.2,
        stay (one ∷ []) (subst (λ (os : List Op). InModel store.disk (LeavesOnly (IsAmong (ops ++ put-so) os) store.disk.history new.disk.history)) (sym since.1 ∙ is) since.2.moments),
      )

  pub one_broke : (why : RunFault) → FieldBroke (to_accept o chosen) field (at taken.so.leads c h.store.disk) (records.left g d b e) (putting store new) why
      → (is_chosen chosen field ≡ true → why ≡ fault.Output → held b new.disk) → FieldsBroke (to_accept o chosen) all s (records.left g d a e) (filing held ops disk new.disk) why
  one_broke why (early failed withheld none) stamped = early
      (record {
        gone = taken.so.gone;
        left = left;
        split = taken.so.split;
        cases = taken.so.cases;
        mid = at taken.so.leads c h.store.disk;
        checked = taken.so.ran;
        failed = subst (λ x. FirstFailed (to_accept o chosen) x (at taken.so.leads c h.store.disk) g d why) (sym is) (failed.0 others);
        wrote = leaves-on (to_accept o chosen) all left field others s h c a b counts g d e is taken.so why failed.1;
      })
      withheld (nothing-more none)
  one_broke why (full last is-full came same put) stamped =
      let there = put ops put-so disk taken.kept in
      full taken.so.cases last there.0 is-full (up-to last came) there.1 (reported-so same) (nothing-more (λ ops more disk stores. (put ops more disk stores).2)) there.3
  one_broke why (broken last is-disk came same put) stamped =
      let there = put ops put-so disk taken.kept in
      broken taken.so.cases last there.0 is-disk (up-to last came) there.1 (reported-so same) (but-one last there.0 there.1 put)
  one_broke why (unwritten last is-output came put) stamped =
      unwritten taken.so.cases last is-output (up-to last came)
      (one-reported last put (stamped (was-chosen o chosen field (at taken.so.leads c h.store.disk) last (at came.0 d g.store.disk) came.1) is-output))

pub all_took : {C : Type 0} (o : Way C) (chosen : Chosen) (all left : List Field) (s : At C) (h : HostView) (c : C) (a b : Option (List ℕ)) (held : Option (List ℕ) → DiskView → Type 0) (ops : List Op) (disk : DiskView) (store : StoreView) (counts : VerdictCounts) → left ≡ []
    → TookSoFar o chosen all left s h c a b held ops disk store counts → FieldsTook (to_accept o chosen) all s (records.left h c a b) (filing held ops disk store.disk) counts
all_took o chosen all left s h c a b held ops disk store counts e taken =
    let same : taken.so.gone ≡ all = sym (taken.so.split ∙ ap (λ x. taken.so.gone ++ x) e ∙ append-nil taken.so.gone) in (
      (
        taken.so.cases,
        taken.so.leads,
        subst (λ fs. FieldsChecked o chosen fs s taken.so.cases
            (at taken.so.leads c h.store.disk)) same taken.so.ran,
        taken.so.stands,
        taken.so.counted,
        taken.so.wrote,
      ),
      (taken.kept.disk, taken.order),
    )
