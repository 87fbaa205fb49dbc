-- What a driver did that evaluated fields of a copy.
use Rattle.std.proofs.Common.{◌≡◌, ◌∙◌, inl, inr, ℕ, ◌+◌, false, true, List, [], ◌∷◌, ◌++◌, None, Some, ap, refl, sym, subst, append_assoc, append-nil, arith, Ok, Err}
use Rattle.std.proofs.lemmas.Bool.{true≢false}
use Rattle.std.specs.Prelude.{◌⊎◌, IfErr, IfOk, OnOk, Result, is_ok}
use Rattle.std.specs.List.{flat_map}
use Rattle.disk_model.specs.Disk.{DiskView}
use Rattle.worksheet.specs.Contents.{Contents}
use Rattle.worksheet.specs.declared.field.Field.{Field}
use Rattle.worksheet.specs.declared.field.Session.{Session}
use Rattle.host_events.specs.declared.outcome.Outcome.{Outcome}
use Rattle.host_events.specs.declared.reply.Reply.{Reply}
use Rattle.session_engine.specs.World.{World, sheet_in}
use Rattle.session_engine.specs.Host.{HostView, IsHost}
use Rattle.child_edge.specs.Faithful.{at}
use Rattle.child_edge.specs.Reported.{spoken}
use Rattle.offline_programs.specs.declared.fault.RunFault.{RunFault}
use Rattle.tellings.specs.Voice.{CutShort, WroteFront, numbered_text}
use Rattle.driver.specs.declared.report.Show.TheVariants as show
use Rattle.driver.specs.Items.{Item, RunStep, after_fault, ask, halt, print_fault}
use Rattle.driver.specs.Place.{RunPlace, Tries}
use Rattle.driver.specs.Reports.{Report, lives_report, printed_text}
use Rattle.driver.specs.Reports as report
use Rattle.driver.specs.Runs.{DidSteps, left_at_end, parts, seen}
use Rattle.driver.specs.Steps.{Goes, Run}
use Rattle.driver.specs.Steps as step
use Rattle.driver.proofs.Order.{after_halt, after_is}
use Rattle.evaluation.specs.Meant.{missing_in}
use Rattle.evaluation.specs.Programs.{IsFirstLacking, following, here}
use Rattle.evaluation.specs.declared.plan.Plan.{Plan}
use Rattle.field_agenda.specs.LooksFirst.{IsUnderWay, LookedFirst, all_found, in_vain, not_looked}
use Rattle.field_agenda.specs.Looks.{LookFinds, all_there, no_field, no_program}
use Rattle.field_agenda.specs.Stages.{IsEnded}
use Rattle.field_agenda.specs.Standing.{first_fields}
use Rattle.field_agenda.specs.declared.by_fields.ByFields.{ByFields}
use Rattle.field_agenda.specs.declared.stage.Stage.{Stage}
use Rattle.field_agenda.proofs.Endings.{comes_to_an_end}
use Rattle.field_agenda.proofs.Looked.{looked_first}
use Rattle.driver.specs.Place.{source_rules}
use Rattle.sheet_check.specs.Driven.{DrivenToEnd, DrivenUpTo, copy_begins, copy_place, copy_rules, counts_as_there}
use Rattle.sheet_check.specs.Evaluated.{Way}
use Rattle.sheet_check.specs.Marks.{KeptFront, line_marks, mark_rules, mark_voice, marks_of, number_of, numbers_of, reply_marks, report_marks, step_marks}
use Rattle.sheet_check.specs.declared.marks.AllThere.{AllThere}
use Rattle.sheet_check.specs.declared.marks.Mark.{Mark}
use Rattle.sheet_check.specs.declared.marks.Mark.TheVariants as mark
use Rattle.sheet_check.specs.declared.marks.Marks.{Marks}

-- What the sink's voice says.

numbers-more : (xs ys : List Mark) → numbers_of (xs ++ ys) ≡ numbers_of xs ++ numbers_of ys
numbers-more [] ys = refl
numbers-more (x ∷ xs) ys = ap (λ (l : List ℕ). number_of x ∷ l) (numbers-more xs ys)

line_numbers : (line : ℕ) (sheet : Contents) (outcomes : List Outcome) → numbered_text mark_voice line sheet outcomes ≡ numbers_of (line_marks outcomes)
line_numbers line sheet [] = refl
line_numbers line sheet (o ∷ outcomes) =
    ap (λ (l : List ℕ). numbers_of (reply_marks o.reply) ++ l) (line_numbers (line + 1) sheet outcomes) ∙ sym (numbers-more (reply_marks o.reply) (line_marks outcomes))

abbrev unsaid : Reply → List ℕ
unsaid r = []

no_event : (replies : List Reply) → flat_map unsaid replies ≡ []
no_event [] = refl
no_event (r ∷ replies) = no_event replies

no_life : (w : World) (outcomes : List Outcome) → lives_report mark_voice w outcomes ≡ []
no_life w [] = refl
no_life w (o ∷ outcomes) = ap (λ (l : List ℕ). l ++ lives_report mark_voice w outcomes) (no_event (spoken o.reply)) ∙ no_life w outcomes

-- it is the numbers of marks
pub said_is : (w : World) (s : Report) → printed_text mark_voice w s ≡ numbers_of (report_marks s)
said_is w (report.lines first outcomes) = line_numbers first (sheet_in w) outcomes
said_is w (report.lives outcomes) = no_life w outcomes
said_is w (report.followed replies) = no_event replies
said_is w (report.shown (show.Note n)) = refl
said_is w (report.shown (show.Sheet line)) = refl
said_is w (report.shown (show.Field line id)) = refl
said_is w (report.shown (show.Export line format)) = refl

says : (k l : Marks) (disk : DiskView) (text : List ℕ) (marks : List Mark) → text ≡ numbers_of marks → l.kept ≡ k.kept ++ marks → Tries mark_rules k disk text true l
says k l disk text marks is kept =
    record { tried = tt; appends = λ whole. ap numbers_of kept ∙ numbers-more k.kept marks ∙ ap (λ (t : List ℕ). numbers_of k.kept ++ t) (sym is) }

pub says_none : (k : Marks) (disk : DiskView) (text : List ℕ) → text ≡ [] → Tries mark_rules k disk text true k
says_none k disk text is = says k k disk text [] is (sym (append-nil k.kept))

-- where marks were kept, or there was no memory for them
pub says_marks : (k l : Marks) (disk : DiskView) (text : List ℕ) (marks : List Mark) (r : Result (Unit {0}) RunFault) → text ≡ numbers_of marks → OnOk r (l.kept ≡ k.kept ++ marks) → Tries mark_rules k disk text (is_ok r) l
says_marks k l disk text marks (Ok done) is kept = says k l disk text marks is kept
says_marks k l disk text marks (Err why) is kept = record { tried = tt; appends = λ whole. absurd (true≢false (sym whole)) }

-- where there was no memory for them, a beginning of them was kept
pub cut_marks : (k l : Marks) (text : List ℕ) (marks : List Mark) (r : Result (Unit {0}) RunFault) → text ≡ numbers_of marks → IfErr r (λ why. KeptFront k.kept l.kept marks)
    → IfErr r (CutShort false (Some (numbers_of k.kept)) (Some (numbers_of l.kept)) text)
cut_marks k l text marks (Ok done) is cut = tt
cut_marks k l text marks (Err why) is cut = record { lacked = λ lacks. front; broken = λ broke so. absurd (true≢false (sym so)) }
  where
    front : WroteFront false (Some (numbers_of k.kept)) (Some (numbers_of l.kept)) text
    front = record {
      front = numbers_of cut.front;
      rest = numbers_of cut.rest;
      split = sym (numbers-more cut.front cut.rest) ∙ ap numbers_of cut.split ∙ sym is;
      lines = λ so. absurd (true≢false (sym so));
      wrote = ap numbers_of cut.kept ∙ numbers-more k.kept cut.front;
    }

pub none_kept : (k l : Marks) (marks : List Mark) (r : Result (Unit {0}) RunFault) → IfErr r (λ why. l.kept ≡ k.kept) → IfErr r (λ why. KeptFront k.kept l.kept marks)
none_kept k l marks (Ok done) same = tt
none_kept k l marks (Err why) same = record { front = []; rest = marks; split = refl; kept = same ∙ sym (append-nil k.kept) }

-- marks by their numbers

same_mark : (a b : Mark) → number_of a ≡ number_of b → a ≡ b
same_mark mark.Asked mark.Asked e = refl
same_mark mark.Asked mark.NoMemory e = absurd (omega (arith, e))
same_mark mark.Asked (mark.Over j) e = absurd (omega (arith, e))
same_mark mark.NoMemory mark.Asked e = absurd (omega (arith, e))
same_mark mark.NoMemory mark.NoMemory e = refl
same_mark mark.NoMemory (mark.Over j) e = absurd (omega (arith, e))
same_mark (mark.Over i) mark.Asked e = absurd (omega (arith, e))
same_mark (mark.Over i) mark.NoMemory e = absurd (omega (arith, e))
same_mark (mark.Over i) (mark.Over j) e = let same : i ≡ j = omega (arith, e) in ap (λ (n : ℕ). mark.Over n) same

same_marks : (xs ys : List Mark) → numbers_of xs ≡ numbers_of ys → xs ≡ ys
same_marks [] [] e = refl
same_marks [] (y ∷ ys) e = let no : [] ≡ number_of y ∷ numbers_of ys = e in absurd cc
same_marks (x ∷ xs) [] e = let no : number_of x ∷ numbers_of xs ≡ [] = e in absurd cc
same_marks (x ∷ xs) (y ∷ ys) e =
    let both : number_of x ∷ numbers_of xs ≡ number_of y ∷ numbers_of ys = e in
    let first : number_of x ≡ number_of y = cc in
    let rest : numbers_of xs ≡ numbers_of ys = cc in
    let one : x ≡ y = same_mark x y first in
    let more : xs ≡ ys = same_marks xs ys rest in cc

-- What was kept.

module _ {C : Type 0} (o : Way C) where
  abbrev Spot : Type 0
  Spot = RunPlace (ByFields AllThere) C Marks

  none_halted : (p q : Spot) (why : RunFault) (steps : List RunStep) → Run (copy_rules o) p (halt why ∷ []) steps [] q → ⊥
  none_halted p q why [] (is, same) = absurd cc
  none_halted p q why (s ∷ steps) (next, mid, goes, more) = after_halt (copy_rules o) p mid why s next goes

  none_printed : (p q : Spot) (why : RunFault) (steps : List RunStep) → Run (copy_rules o) p (print_fault why ∷ []) steps [] q → ⊥
  none_printed p q why [] (is, same) = absurd cc
  none_printed p q why (s ∷ steps) (next, mid, step.prints_fault w whole k tries, more) = none_halted mid q why steps more
  none_printed p q why (s ∷ steps) (next, mid, step.breaks i entries w x rest fails, more) = absurd (elim fails [ ])

  none_broke : (p q : Spot) (why : RunFault) (steps : List RunStep) → Run (copy_rules o) p (after_fault why) steps [] q → ⊥
  none_broke p q why steps r = by (after_is why)
    where
      by : ((after_fault why ≡ halt why ∷ []) ⊎ (after_fault why ≡ print_fault why ∷ [])) → ⊥
      by (inl e) = none_halted p q why steps (subst (λ (l : List Item). Run (copy_rules o) p l steps [] q) e r)
      by (inr e) = none_printed p q why steps (subst (λ (l : List Item). Run (copy_rules o) p l steps [] q) e r)

  step_kept : (p mid q : Spot) (todo next : List Item) (s : RunStep) (steps : List RunStep) → Goes (copy_rules o) p todo s next mid → Run (copy_rules o) mid next steps [] q
      → numbers_of mid.sink.kept ≡ numbers_of p.sink.kept ++ numbers_of (step_marks s)
  step_kept p mid q todo next s steps (step.asks now t a clock said) more = sym (append-nil (numbers_of p.sink.kept))
  step_kept p mid q todo next s steps (step.watches x w c a rest wakes reported) more = sym (append-nil (numbers_of p.sink.kept))
  step_kept p mid q todo next s steps (step.hears seat most events c rest h) more = sym (append-nil (numbers_of p.sink.kept))
  step_kept p mid q todo next s steps (step.takes from events outcomes followed w c d rest t) more = sym (append-nil (numbers_of p.sink.kept))
  step_kept p mid q todo next s steps (step.joins events outcomes first others later followed a w c d rest asked t) more = sym (append-nil (numbers_of p.sink.kept))
  step_kept p mid q todo next s steps (step.takes_whole first events outcomes w d rest t) more = sym (append-nil (numbers_of p.sink.kept))
  step_kept p mid q todo next s steps (step.refuses_whole first events outcomes one rest r) more = sym (append-nil (numbers_of p.sink.kept))
  step_kept p mid q todo next s steps (step.takes_edits up_to events done outcomes w d rest first t) more = sym (append-nil (numbers_of p.sink.kept))
  step_kept p mid q todo next s steps (step.takes_alone x o w d rest gives kept) more = sym (append-nil (numbers_of p.sink.kept))
  step_kept p mid q todo next s steps (step.carries o answer c rest went) more = sym (append-nil (numbers_of p.sink.kept))
  step_kept p mid q todo next s steps (step.receives seat x c rest was) more = sym (append-nil (numbers_of p.sink.kept))
  step_kept p mid q todo next s steps (step.rewrites line one w d rest gives kept) more = sym (append-nil (numbers_of p.sink.kept))
  step_kept p mid q todo next s steps (step.stalls_all rest) more = sym (append-nil (numbers_of p.sink.kept))
  step_kept p mid q todo next s steps (step.interrupts name reported c rest i) more = sym (append-nil (numbers_of p.sink.kept))
  step_kept p mid q todo next s steps (step.prints t k rest tries) more = tries.appends refl ∙ ap (λ (l : List ℕ). numbers_of p.sink.kept ++ l) (said_is p.world t)
  step_kept p mid q todo next s steps (step.heeds c now n a rest clock h) more = sym (append-nil (numbers_of p.sink.kept))
  step_kept p mid q todo next s steps (step.breaks i entries why there rest fails) more = absurd (none_broke mid q why steps more)
  step_kept p mid q todo next s steps (step.prints_fault why whole k tries) more = absurd (none_halted mid q why steps more)

  all_kept : (p q : Spot) (todo : List Item) (steps : List RunStep) → Run (copy_rules o) p todo steps [] q → numbers_of q.sink.kept ≡ numbers_of p.sink.kept ++ numbers_of (marks_of steps)
  all_kept p q todo [] (is, same) = ap (λ (x : Spot). numbers_of x.sink.kept) same ∙ sym (append-nil (numbers_of p.sink.kept))
  all_kept p q todo (s ∷ steps) (next, mid, goes, more) =
      all_kept mid q next steps more ∙ ap (λ (l : List ℕ). l ++ numbers_of (marks_of steps)) (step_kept p mid q todo next s steps goes more)
      ∙ append_assoc (numbers_of p.sink.kept) (numbers_of (step_marks s)) (numbers_of (marks_of steps))
      ∙ ap (λ (l : List ℕ). numbers_of p.sink.kept ++ l) (sym (numbers-more (step_marks s) (marks_of steps)))

-- How far it came.

never_lacking : (programs : AllThere) (fields : List Field) (ids : List ℕ) (sessions : List Session) (name : List ℕ) → IsFirstLacking (counts_as_there programs) fields ids sessions name → ⊥
never_lacking programs fields ids sessions name (here session others needed lacks) = true≢false (sym lacks)
never_lacking programs fields ids sessions name (following session others found has lacks) = never_lacking programs fields ids others name lacks

found_all : (programs : AllThere) (plan : Plan) (sheet : Contents) (ids : List ℕ) (how : Stage) → missing_in plan.which sheet.fields ≡ None → (IsUnderWay how → ⊥) → LookFinds (counts_as_there programs) plan sheet ids how → ⊥
found_all programs plan sheet ids how all not_so (no_field id is) = let no : None ≡ Some id = sym all ∙ is in cc
found_all programs plan sheet ids how all not_so (no_program name there lacks) = never_lacking programs sheet.fields _ sheet.sessions name lacks
found_all programs plan sheet ids how all not_so (all_there there ready is) = not_so tt

module _ {C : Type 0} (o : Way C) where
  got_under_way : (p q : Spot o) (steps : List RunStep) (left : List Item) → IsEnded q.agenda.stage → missing_in p.agenda.plan.which (sheet_in p.world).fields ≡ None → LookedFirst counts_as_there p q steps left
      → IsUnderWay q.agenda.stage
  got_under_way p q steps left ended all (all_found there ready under) = under
  got_under_way p q steps left ended all (in_vain ids how not_so finds is nothing) = absurd (found_all p.agenda.programs p.agenda.plan (sheet_in p.world) ids how all not_so finds)
  got_under_way p q steps left ended all (not_looked is nothing) = absurd (subst IsEnded is ended)

  pub driven : (programs : AllThere) (plan : Plan) (w : World) (h g : HostView) (c d : C) (n : ℕ) (a : ByFields AllThere) (kept : Marks) (done : Unit {0})
      → (did : DidSteps (copy_rules o) (seen 0 w (parts h c (record { kept = [] }) (first_fields plan programs))) (ask ∷ []) left_at_end (Ok done) (n, parts g d kept a))
      → DrivenToEnd o plan (at w c h.store.disk) kept.kept (at did.world d g.store.disk)
  driven programs plan w h g c d n a kept done did =
      let p = copy_begins plan programs (at w c h.store.disk) in
      let q = copy_place n a kept (at did.world d g.store.disk) in
      let sources = source_rules o.after o.wakes o.clock in
      let end = comes_to_an_end counts_as_there sources mark_rules p q did.steps did.ran in
      record {
        programs = programs;
        steps = did.steps;
        asked = n;
        agenda = a;
        ran = did.ran;
        marks_are = same_marks kept.kept (marks_of did.steps) (all_kept o p q (ask ∷ []) did.steps did.ran);
        ended = end;
        counted = λ all. got_under_way p q did.steps [] end all (looked_first counts_as_there sources mark_rules p q [] did.steps refl did.ran);
      }

  pub driven_up_to : (programs : AllThere) (plan : Plan) (w : World) (h g : HostView) (c d : C) (n : ℕ) (a : ByFields AllThere) (kept : Marks) (why : RunFault)
      → DidSteps {T = Unit {0}} (copy_rules o) (seen 0 w (parts h c (record { kept = [] }) (first_fields plan programs))) (ask ∷ []) left_at_end (Err why) (n, parts g d kept a)
      → DrivenUpTo o plan (at w c h.store.disk) g d why
  driven_up_to programs plan w h g c d n a kept why did =
      record { programs = programs; steps = did.steps; asked = n; agenda = a; kept = kept; world = did.world; ran = did.ran; stands = did.stands }

-- From where a plan was given.
module _ {C : Type 0} (o : Way C) (programs : AllThere) (plan : Plan) (w : World) (h g : HostView) (c d : C) (n : ℕ) (k kept : Marks) (b a : ByFields AllThere)
    (none : k ≡ record { kept = [] }) (first : b ≡ first_fields plan programs) where
  given : (r : Result (Unit {0}) RunFault) → DidSteps (copy_rules o) (seen 0 w (parts h c k b)) (ask ∷ []) left_at_end r (n, parts g d kept a)
      → DidSteps (copy_rules o) (seen 0 w (parts h c (record { kept = [] }) (first_fields plan programs))) (ask ∷ []) left_at_end r (n, parts g d kept a)
  given r did = subst (λ (x : Marks). DidSteps (copy_rules o) (seen 0 w (parts h c x (first_fields plan programs))) (ask ∷ []) left_at_end r (n, parts g d kept a)) none
      (subst (λ (x : ByFields AllThere). DidSteps (copy_rules o) (seen 0 w (parts h c k x)) (ask ∷ []) left_at_end r (n, parts g d kept a)) first did)

  pub plan_driven : (r : Result (Unit {0}) RunFault) → DidSteps (copy_rules o) (seen 0 w (parts h c k b)) (ask ∷ []) left_at_end r (n, parts g d kept a)
      → IfOk r (λ done. (t : World) × DrivenToEnd o plan (at w c h.store.disk) kept.kept (at t d g.store.disk) × IsHost g t)
  plan_driven (Ok done) did = let so = given (Ok done) did in (so.world, driven o programs plan w h g c d n a kept done so, so.stands)
  plan_driven (Err why) did = tt

  pub plan_broke : (r : Result (Unit {0}) RunFault) → DidSteps (copy_rules o) (seen 0 w (parts h c k b)) (ask ∷ []) left_at_end r (n, parts g d kept a)
      → IfErr r (DrivenUpTo o plan (at w c h.store.disk) g d)
  plan_broke (Ok done) did = tt
  plan_broke (Err why) did = driven_up_to o programs plan w h g c d n a kept why (given (Err why) did)
