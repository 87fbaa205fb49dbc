-- What `check --accept` puts in is what whole blocks answered on a copy.
use Rattle.std.proofs.Common.{◌≡◌, ◌⊎◌, ◌∙◌, ⊎_elim, ℕ, Bool, true, false, List, [], ◌∷◌, ◌++◌, Option, Some, None, refl, sym, ap, subst, append-nil, append_assoc, arith}
use Rattle.std.specs.Prelude.{◌==◌}
use Rattle.std.specs.List.{AllByRecursion}
use Rattle.std.specs.Option.{option_map_or}
use Rattle.std.proofs.Math.Path.{path_j, subst_refl}
use Rattle.std.proofs.lemmas.Bool.Decides.{nat_tests}
use Rattle.std.proofs.lemmas.Grind.{flat_map-append}
use Rattle.worksheet.specs.declared.op.Op.{Op}
use Rattle.worksheet.specs.declared.field.Answer.{Answer}
use Rattle.worksheet.specs.declared.field.Field.{Field}
use Rattle.worksheet.specs.Checks.{field_in, numbers}
use Rattle.worksheet.specs.Contents.{Contents}
use Rattle.worksheet.specs.Edits.{AreApart, Lacks}
use Rattle.worksheet.specs.Ops.{sheet_of}
use Rattle.worksheet.proofs.Finds.{field_in-id}
use Rattle.worksheet.proofs.NextLaws.{sound_of}
use Rattle.host_events.specs.declared.event.Event.{Event}
use Rattle.host_events.specs.declared.outcome.Outcome.{Outcome}
use Rattle.session_engine.specs.World.{World, sheet_in, world_at_opening}
use Rattle.session_engine.specs.Does.{Runs}
use Rattle.host_laws.specs.Turns.{AnsweredIn, Has, HostStep, KeepField, StepsOf}
use Rattle.host_laws.proofs.FieldLaws.{HasItsLine}
use Rattle.host_laws.proofs.Going.{shown_by_host, sound}
use Rattle.child_edge.specs.Faithful.{At, Entry}
use Rattle.child_edge.specs.Moments.{events_of, outcomes_of}
use Rattle.driver.specs.Items.{ask}
use Rattle.driver.proofs.Courses.{events_append, outcomes_append, runs_on}
use Rattle.driver.proofs.Fronts.{leads_to}
use Rattle.check_report.specs.declared.verdict.Verdict.{Verdict}
use Rattle.check_report.specs.declared.verdict.Verdict.TheVariants as verdict
use Rattle.check_report.specs.Chosen.{Judged, compared, left_out}
use Rattle.check_report.specs.Reports.{Case, case}
use Rattle.check_report.specs.Verdicts.{Compared, differs, new, same, unanswered}
use Rattle.sheet_check.specs.Accept.{accepted, accepted_answer, accepted_of, answer_ops}
use Rattle.sheet_check.specs.Kept.{answer_op}
use Rattle.sheet_check.specs.Check.{IsCopy, Passage}
use Rattle.driver.specs.Place.{source_rules}
use Rattle.sheet_check.specs.Driven.{copy_begins, copy_place, copy_rules, counts_as_there, one_plan}
use Rattle.sheet_check.specs.Marks.{mark_rules}
use Rattle.sheet_check.specs.Evaluated.{OneByOne, came_if, reason_shown_in, shown_in}
use Rattle.sheet_check.specs.Fields.{FieldChecked, FieldsChecked, checked, comes_by, passed}
use Rattle.sheet_check.proofs.Fields.{fields-more}
use Rattle.theorem.specs.Copies.{IsEvalOrChild, PutsWhole}
use Rattle.driver_visits.proofs.Evaluating.{AreOfEvals, entries_joined, lines_stay, of_fields}
use Rattle.driver_visits.specs.Copied.{AnsweredOnCopy, EvaluatedOnCopy, RanOnCopy, all_fields, broke_off, field_trace, fields_trace, first_fields, place_at_first, place_at_last, run_trace, world_at_first}

-- Evaluations lead from world to world.

leads_on : (w : World) (bs : List Entry) (m : World) (cs : List Entry) (v : World) → Runs w (events_of bs) (outcomes_of bs) m → Runs m (events_of cs) (outcomes_of cs) v
    → Runs w (events_of (bs ++ cs)) (outcomes_of (bs ++ cs)) v
leads_on w bs m cs v first after =
    subst (λ (es : List Event). Runs w es (outcomes_of (bs ++ cs)) v) (sym (events_append bs cs))
    (subst (λ (os : List Outcome). Runs w (events_of bs ++ events_of cs) os v) (sym (outcomes_append bs cs))
    (runs_on w (events_of bs) (outcomes_of bs) m (events_of cs) (outcomes_of cs) v first after))

field_leads : {C : Type 0} (o : OneByOne C) (field : Field) (s : At C) (cases : List Case) (t : At C) (c : FieldChecked o.way o.chosen field s cases t)
    → Runs s.world (events_of (field_trace o field s cases t c)) (outcomes_of (field_trace o field s cases t c)) t.world
field_leads o field s cases t (passed none) = refl
field_leads o field s cases t (checked came took verdict u chosen evaluated judged) =
    let driven = evaluated.driven in
    leads_to (copy_rules o.way) (copy_begins (one_plan o.way field.id) driven.programs s) (copy_place driven.asked driven.agenda (record { kept = evaluated.marks }) t)
    (ask ∷ []) [] driven.steps driven.ran

-- of evaluations, and of what comes from lives
field_evaluates : {C : Type 0} (o : OneByOne C) (field : Field) (s : At C) (cases : List Case) (t : At C) (c : FieldChecked o.way o.chosen field s cases t) → AreOfEvals (events_of (field_trace o field s cases t c))
field_evaluates o field s cases t (passed none) = tt
field_evaluates o field s cases t (checked came took verdict u chosen evaluated judged) =
    let driven = evaluated.driven in
    of_fields counts_as_there (source_rules o.way.after o.way.wakes o.way.clock) mark_rules (copy_begins (one_plan o.way field.id) driven.programs s) (copy_place driven.asked driven.agenda (record { kept = evaluated.marks }) t) driven.steps driven.ran

fields_evaluate : {C : Type 0} (o : OneByOne C) (fields : List Field) (s : At C) (cases : List Case) (t : At C) (c : FieldsChecked o.way o.chosen fields s cases t) → AreOfEvals (events_of (fields_trace o fields s cases t c))
fields_evaluate o [] s cases t c = tt
fields_evaluate o (field ∷ fields) s cases t c =
    entries_joined (field_trace o field s c.1 c.0 c.3) (fields_trace o fields c.0 c.2 t c.4) (field_evaluates o field s c.1 c.0 c.3) (fields_evaluate o fields c.0 c.2 t c.4)

fields_lead : {C : Type 0} (o : OneByOne C) (fields : List Field) (s : At C) (cases : List Case) (t : At C) (c : FieldsChecked o.way o.chosen fields s cases t)
    → Runs s.world (events_of (fields_trace o fields s cases t c)) (outcomes_of (fields_trace o fields s cases t c)) t.world
fields_lead o [] s cases t c = ap (λ (x : At _). x.world) c.1
fields_lead o (field ∷ fields) s cases t c =
    leads_on s.world (field_trace o field s c.1 c.0 c.3) c.0.world (fields_trace o fields c.0 c.2 t c.4) t.world
    (field_leads o field s c.1 c.0 c.3) (fields_lead o fields c.0 c.2 t c.4)

-- The trace of one field more.

trace_moved : {C : Type 0} (o : OneByOne C) (field : Field) (cases : List Case) (t mid s : At C) (is : mid ≡ s) (p : FieldChecked o.way o.chosen field mid cases t)
    → field_trace o field s cases t (subst (λ (m : At C). FieldChecked o.way o.chosen field m cases t) is p) ≡ field_trace o field mid cases t p
trace_moved {C = C} o field cases t mid s is p =
    path_j (λ (m : At C) (e : mid ≡ m). field_trace o field m cases t (subst (λ (n : At C). FieldChecked o.way o.chosen field n cases t) e p) ≡ field_trace o field mid cases t p)
    (ap (field_trace o field mid cases t) (subst_refl (λ (n : At C). FieldChecked o.way o.chosen field n cases t) p)) is

trace_more : {C : Type 0} (o : OneByOne C) (gone : List Field) (field : Field) (s : At C) (cases : List Case) (mid : At C) (more : List Case) (t : At C)
    → (h : FieldsChecked o.way o.chosen gone s cases mid) (p : FieldChecked o.way o.chosen field mid more t)
    → fields_trace o (gone ++ field ∷ []) s (cases ++ more) t (fields-more o gone field s cases mid more t h p) ≡ fields_trace o gone s cases mid h ++ field_trace o field mid more t p
unfolding fields-more
trace_more o [] field s cases mid more t h p = append-nil (field_trace o field s more t (subst (λ (m : At _). FieldChecked o.way o.chosen field m more t) h.1 p)) ∙ trace_moved o field more t mid s h.1 p
trace_more o (x ∷ xs) field s cases mid more t h p =
    ap (λ (l : List Entry). field_trace o x s h.1 h.0 h.3 ++ l) (trace_more o xs field h.0 h.2 mid more t h.4 p)
    ∙ sym (append_assoc (field_trace o x s h.1 h.0 h.3) (fields_trace o xs h.0 h.2 mid h.4) (field_trace o field mid more t p))

-- A field of a worksheet is the one with its number.

lacks_it : (n : ℕ) (gone : List Field) (field : Field) (left : List Field) → Lacks n (numbers (gone ++ field ∷ left)) → (n == field.id) ≡ false
lacks_it n [] field left lacks = let no = lacks.0 in grind (arith, nat_tests, no)
lacks_it n (g ∷ gone) field left lacks = lacks_it n gone field left lacks.1

finds_it : (gone : List Field) (field : Field) (left : List Field) → AreApart (numbers (gone ++ field ∷ left)) → field_in (gone ++ field ∷ left) field.id ≡ Some field
finds_it [] field left apart = let here : (field.id == field.id) ≡ true = grind (arith, nat_tests) in rw here refl
finds_it (g ∷ gone) field left apart = rw (lacks_it g.id gone field left apart.0) (finds_it gone field left apart.1)

-- What was accepted came, and isn't what the field shows.

-- the answer that came where one is accepted
came_there : (came : Option Answer) (v : Verdict) (answer : Answer) → accepted_answer came v ≡ Some answer → came ≡ Some answer
came_there came verdict.Same answer is = cc
came_there came verdict.Differs answer is = is
came_there came verdict.Unanswered answer is = cc
came_there came verdict.LeftOut answer is = cc
came_there came verdict.New answer is = is

came_from : (asked : Bool) (shown : Option Answer) (answer : Answer) → came_if asked shown ≡ Some answer → shown ≡ Some answer
came_from false shown answer is = cc
came_from true shown answer is = is

-- a field that shows an answer is there
pub record ShowsIn (w : World) (id : ℕ) (answer : Answer) : Type 0 where
  pub shown : Field
  pub number : shown.id ≡ id
  pub has : Has (sheet_in w) shown
  pub shows : shown.answer ≡ Some answer

shows_in : (w : World) (id : ℕ) (answer : Answer) → shown_in w id ≡ Some answer → ShowsIn w id answer
shows_in w id answer is = go (field_in (sheet_in w).fields id) refl is
  where
    go : (found : Option Field) → field_in (sheet_in w).fields id ≡ found → option_map_or (λ (field : Field). field.answer) found None ≡ Some answer → ShowsIn w id answer
    go None there none = cc
    go (Some shown) there some =
        let number = field_in-id (sheet_in w).fields id shown there in record {
          shown = shown;
          number = number;
          has = ap (λ (n : ℕ). field_in (sheet_in w).fields n) number ∙ there;
          shows = some;
        }

-- the answer isn't accepted that the field shows already
not_again : (field : Field) (came : Option Answer) (v : Verdict) (answer : Answer) → Compared field.answer came v → field.answer ≡ Some answer → came ≡ Some answer → accepted_answer came v ≡ Some answer → ⊥
not_again field came v answer judged shows is taken = go field.answer came v judged shows is taken
  where
    go : (shown came : Option Answer) (v : Verdict) → Compared shown came v → shown ≡ Some answer → came ≡ Some answer → accepted_answer came v ≡ Some answer → ⊥
    go shown came v (same a b equal) shows is taken = let no : None ≡ Some answer = taken in cc
    go shown came v (differs a b other) shows is taken = other (let x : a ≡ answer = cc in let y : b ≡ answer = cc in ap (λ (c : Answer). c.output) (y ∙ sym x))
    go shown came v (new b) shows is taken = let no : None ≡ Some answer = shows in cc
    go shown came v (unanswered a) shows is taken = let no : None ≡ Some answer = is in cc

not_kept : {chosen : _} (field : Field) (came : Option Answer) (v : Verdict) (answer : Answer) → Judged chosen field came v → field.answer ≡ Some answer → accepted_answer came v ≡ Some answer → ⊥
not_kept field came v answer (left_out out is) shows taken = let no : None ≡ Some answer = subst (λ (x : Verdict). accepted_answer came x ≡ Some answer) is taken in cc
not_kept field came v answer (compared other judged) shows taken = not_again field came v answer judged shows (came_there came v answer taken) taken

-- One copy, and the fields that were evaluated there one after another.
module _ {C : Type 0} (o : OneByOne C) (sheet : Contents) (q : Passage C) (all : List Case) (run : RanOnCopy o sheet q all) (copied : IsCopy sheet (world_at_first run) (place_at_first run).disk) (at_start : (place_at_first run).world ≡ world_at_first run) where
  abbrev first : At C
  first = place_at_first run

  abbrev OnCopy : Op → Type 0
  OnCopy = AnsweredOnCopy o sheet q all run

  same_sheet : sheet_of copied.opened.ops ≡ sheet
  same_sheet = ap sheet_in (sym copied.opened.is) ∙ copied.has

  apart : AreApart (numbers sheet.fields)
  apart = subst (λ (s : Contents). AreApart (numbers s.fields)) same_sheet (sound_of copied.opened.ops copied.opened.allowed).apart

  field_at : (gone : List Field) (field : Field) (left : List Field) → sheet.fields ≡ gone ++ field ∷ left → field_in sheet.fields field.id ≡ Some field
  field_at gone field left split = subst (λ (fs : List Field). AreApart (numbers fs) → field_in fs field.id ≡ Some field) (sym split) (finds_it gone field left) apart

  -- an answer that came so is a whole one, of the theorem's words
  whole_answer : (put : Op) → OnCopy put → PutsWhole sheet (events_of (run_trace run)) put
  whole_answer put a =
      let c = a.on_copy in
      let field = a.one.field in record {
        field = field;
        has = field_at c.gone field (c.left ++ c.others) c.split;
        answer = a.answer;
        puts = a.puts;
        whole = record {
          host = record {
            copied = copied.opened.ops;
            allowed = copied.opened.allowed;
            same = same_sheet;
            room = copied.made.room;
            end = copied.opened.end;
            events = events_of c.entries;
            later = events_of c.following;
            split = ap events_of c.first ∙ events_append c.entries c.following;
            outcomes = outcomes_of c.entries;
            steps = c.steps;
            leads = c.there.world;
            led = subst (λ (w : World). StepsOf w (events_of c.entries) (outcomes_of c.entries) c.steps c.there.world) copied.opened.is c.led;
          };
          shown = a.shown;
          number = a.number;
          session = a.session;
          input = a.input;
          shows = a.shows;
          answered = a.answered;
        };
      }

  -- where a field was evaluated after those before it, it was there so when the copy was opened, or a step closed its answer
  module _ (gone : List Field) (before : List Case) (mid : At C) (earlier : FieldsChecked o.way o.chosen gone first before mid) (one : Case) (left others : List Field) (split : sheet.fields ≡ gone ++ (one.field ∷ (left ++ others)))
      (there : At C) (evaluated : FieldChecked o.way o.chosen one.field mid (one ∷ []) there) (after : List Case) (cases : all ≡ before ++ one ∷ after) (later : FieldsChecked o.way o.chosen left there after (place_at_last run)) (following : List Entry)
      (is_first : run_trace run ≡ (fields_trace o gone first before mid earlier ++ field_trace o one.field mid (one ∷ []) there evaluated) ++ following) where
    abbrev field : Field
    field = one.field

    abbrev entries : List Entry
    entries = fields_trace o gone first before mid earlier ++ field_trace o field mid (one ∷ []) there evaluated

    abbrev opens : World
    opens = world_at_opening copied.opened.ops copied.made.room copied.opened.end

    ran : Runs opens (events_of entries) (outcomes_of entries) there.world
    ran = subst (λ (w : World). Runs w (events_of entries) (outcomes_of entries) there.world) (at_start ∙ copied.opened.is)
        (leads_on first.world (fields_trace o gone first before mid earlier) mid.world (field_trace o field mid (one ∷ []) there evaluated) there.world
        (fields_lead o gone first before mid earlier) (field_leads o field mid (one ∷ []) there evaluated))

    shown-by : (steps : List HostStep) × StepsOf opens (events_of entries) (outcomes_of entries) steps there.world
        × ((f : Field) (a : Answer) → f.answer ≡ Some a → Has (sheet_in there.world) f → (Has (sheet_of copied.opened.ops) f × KeepField f steps) ⊎ AnsweredIn steps f)
    shown-by = shown_by_host copied.opened.ops copied.made.room copied.opened.end (events_of entries) (outcomes_of entries) there.world copied.opened.allowed ran

    abbrev on_copy : EvaluatedOnCopy o sheet q all run one
    on_copy = record {
      gone = gone;
      left = left;
      others = others;
      split = split;
      before = before;
      after = after;
      cases = cases;
      mid = mid;
      earlier = earlier;
      there = there;
      evaluated = evaluated;
      later = later;
      entries = entries;
      are = refl;
      following = following;
      first = is_first;
      steps = shown-by.0;
      led = subst (λ (w : World). StepsOf w (events_of entries) (outcomes_of entries) shown-by.0 there.world) (sym copied.opened.is) shown-by.1;
    }

    its_field : field_in sheet.fields field.id ≡ Some field
    its_field = field_at gone field (left ++ others) split

    -- the field with its number has its line there
    has_line : HasItsLine there.world.ops field
    has_line = lines_stay field opens (events_of entries) (outcomes_of entries) there.world (sound copied.opened.ops copied.made.room copied.opened.end copied.opened.allowed) ran
        (entries_joined (fields_trace o gone first before mid earlier) (field_trace o field mid (one ∷ []) there evaluated)
        (fields_evaluate o gone first before mid earlier) (field_evaluates o field mid (one ∷ []) there evaluated))
        (record { field = field; found = subst (λ (s : Contents). field_in s.fields field.id ≡ Some field) (sym same_sheet) its_field; session = refl; input = refl })

    same_line : (shown : Field) → shown.id ≡ field.id → Has (sheet_in there.world) shown → has_line.field ≡ shown
    same_line shown number has =
        let here : field_in (sheet_in there.world).fields field.id ≡ Some shown = subst (λ (n : ℕ). field_in (sheet_in there.world).fields n ≡ Some shown) number has in
        let both : Some has_line.field ≡ Some shown = sym has_line.found ∙ here in cc

    -- the field that was there at first is the worksheet's
    was_it : (shown : Field) → shown.id ≡ field.id → Has (sheet_of copied.opened.ops) shown → shown ≡ field
    was_it shown number had =
        let here : field_in sheet.fields field.id ≡ Some shown = subst (λ (n : ℕ). field_in sheet.fields n ≡ Some shown) number (subst (λ (s : Contents). field_in s.fields shown.id ≡ Some shown) same_sheet had) in
        let both : Some field ≡ Some shown = sym its_field ∙ here in cc

    came_so : (answer : Answer) → accepted_of one ≡ answer_op field.id answer ∷ [] → shown_in there.world field.id ≡ Some answer → (field.answer ≡ Some answer → ⊥) → OnCopy (answer_op field.id answer)
    came_so answer taken shows other =
        let s = shows_in there.world field.id answer shows in record {
          one = one;
          on_copy = on_copy;
          answer = answer;
          puts = refl;
          taken = taken;
          shown = s.shown;
          number = s.number;
          session = ap (λ (f : Field). f.session) (sym (same_line s.shown s.number s.has)) ∙ has_line.session;
          input = ap (λ (f : Field). f.input) (sym (same_line s.shown s.number s.has)) ∙ has_line.input;
          has = s.has;
          shows = s.shows;
          answered = ⊎_elim
              (λ stayed. absurd (other (ap (λ (f : Field). f.answer) (sym (was_it s.shown s.number stayed.0)) ∙ s.shows)))
              (λ answered. answered)
              (shown-by.2 s.shown answer s.shows s.has);
        }

  whole_field : (gone : List Field) (before : List Case) (mid : At C) → (earlier : FieldsChecked o.way o.chosen gone first before mid) → (next : Field) (left others : List Field) → sheet.fields ≡ gone ++ (next ∷ (left ++ others))
      → (cases : List Case) (there : At C) → (c : FieldChecked o.way o.chosen next mid cases there) → (after : List Case) → all ≡ before ++ (cases ++ after) → FieldsChecked o.way o.chosen left there after (place_at_last run)
      → (following : List Entry) → run_trace run ≡ (fields_trace o gone first before mid earlier ++ field_trace o next mid cases there c) ++ following → AllByRecursion OnCopy (accepted cases)
  whole_field gone before mid earlier next left others split cases there (passed none) after is_all later following is_first = tt
  whole_field gone before mid earlier next left others split cases there (checked came took v u chosen evaluated judged) after is_all later following is_first = go (accepted_answer came v) refl
    where
      go : (answer : Option Answer) → accepted_answer came v ≡ answer → AllByRecursion OnCopy (answer_ops next.id answer ++ [])
      go None is = tt
      go (Some answer) is = (
        came_so gone before mid earlier (case next came (reason_shown_in u.world next.id) v (Some took)) left others split u (checked came took v u chosen evaluated judged) after is_all later following is_first answer
            (ap (answer_ops next.id) is)
            (came_from (comes_by evaluated.marks next.id) (shown_in u.world next.id) answer (sym evaluated.came_is ∙ came_there came v answer is))
            (λ shows. not_kept next came v answer judged shows is),
        tt,
      )

  all_joined : (ops more : List Op) → AllByRecursion OnCopy ops → AllByRecursion OnCopy more → AllByRecursion OnCopy (ops ++ more)
  all_joined [] more a b = b
  all_joined (op ∷ ops) more a b = (a.0, all_joined ops more a.1 b)

  whole_fields : (gone : List Field) (before : List Case) (mid : At C) → (earlier : FieldsChecked o.way o.chosen gone first before mid) → (fields others : List Field) → sheet.fields ≡ gone ++ (fields ++ others)
      → (cases : List Case) → all ≡ before ++ cases → (c : FieldsChecked o.way o.chosen fields mid cases (place_at_last run))
      → run_trace run ≡ fields_trace o gone first before mid earlier ++ fields_trace o fields mid cases (place_at_last run) c → AllByRecursion OnCopy (accepted cases)
  whole_fields gone before mid earlier [] others split cases is_all c is_first = subst (λ (l : List Case). AllByRecursion OnCopy (accepted l)) (sym c.0) tt
  whole_fields gone before mid earlier (next ∷ fields) others split cases is_all c is_first =
      let now : all ≡ before ++ (c.1 ++ c.2) = is_all ∙ ap (λ (l : List Case). before ++ l) c.5 in
      let gave = fields_trace o gone first before mid earlier in
      let gives = field_trace o next mid c.1 c.0 c.3 in
      let rest = fields_trace o fields c.0 c.2 (place_at_last run) c.4 in
      let so_far : run_trace run ≡ (gave ++ gives) ++ rest = is_first ∙ sym (append_assoc gave gives rest) in
      subst (λ (l : List Case). AllByRecursion OnCopy (accepted l)) (sym c.5)
      (subst (AllByRecursion OnCopy) (sym (flat_map-append accepted_of c.1 c.2))
      (all_joined (accepted c.1) (accepted c.2) (whole_field gone before mid earlier next fields others split c.1 c.0 c.3 c.2 now c.4 rest so_far)
      (whole_fields (gone ++ next ∷ []) (before ++ c.1) c.0 (fields-more o gone next first before mid c.1 c.0 earlier c.3) fields others
      (split ∙ sym (append_assoc gone (next ∷ []) (fields ++ others))) c.2 (now ∙ sym (append_assoc before c.1 c.2)) c.4
      (so_far ∙ ap (λ (l : List Entry). l ++ rest) (sym (trace_more o gone next first before mid c.1 c.0 earlier c.3))))))

  -- what is accepted of all of them
  all_whole : (fields others : List Field) → sheet.fields ≡ fields ++ others → (c : FieldsChecked o.way o.chosen fields first all (place_at_last run))
      → run_trace run ≡ fields_trace o fields first all (place_at_last run) c → AllByRecursion OnCopy (accepted all)
  all_whole fields others split c is = whole_fields [] [] first (refl, refl) fields others split all refl c is

-- Of each such run.
pub ran_whole : {C : Type 0} (o : OneByOne C) (sheet : Contents) (q : Passage C) (all : List Case) (run : RanOnCopy o sheet q all) → AllByRecursion (AnsweredOnCopy o sheet q all run) (accepted all)
ran_whole o sheet q all (all_fields c) = all_whole o sheet q c.cases (all_fields c) c.copied refl sheet.fields [] (sym (append-nil sheet.fields)) c.checked refl
ran_whole o sheet q all (first_fields c) = all_whole o sheet q all (first_fields c) c.copied refl c.gone c.left c.split c.checked refl
ran_whole o sheet q all (broke_off c) = all_whole o sheet q all (broke_off c) c.copied refl c.gone c.left c.split c.checked refl

-- what came so is whole answers
pub whole_by : {C : Type 0} (o : OneByOne C) (sheet : Contents) (q : Passage C) (all : List Case) (run : RanOnCopy o sheet q all) (put : Op) → AnsweredOnCopy o sheet q all run put → PutsWhole sheet (events_of (run_trace run)) put
whole_by o sheet q all (all_fields c) = whole_answer o sheet q c.cases (all_fields c) c.copied refl
whole_by o sheet q all (first_fields c) = whole_answer o sheet q all (first_fields c) c.copied refl
whole_by o sheet q all (broke_off c) = whole_answer o sheet q all (broke_off c) c.copied refl

-- nothing but evaluations was asked
pub run_evaluates : {C : Type 0} (o : OneByOne C) (sheet : Contents) (q : Passage C) (all : List Case) (run : RanOnCopy o sheet q all) → AllByRecursion IsEvalOrChild (events_of (run_trace run))
run_evaluates o sheet q all (all_fields c) = fields_evaluate o sheet.fields _ c.cases c.leads c.checked
run_evaluates o sheet q all (first_fields c) = fields_evaluate o c.gone _ all c.mid c.checked
run_evaluates o sheet q all (broke_off c) = fields_evaluate o c.gone _ all c.mid c.checked
