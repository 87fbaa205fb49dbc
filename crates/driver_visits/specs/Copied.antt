-- What `check --accept` puts into a field is a whole block, which answered the field's line on a copy of the worksheet. (docs/trust/THEOREM.md; premise A7 in
-- the README of crate `theorem`.)
use Rattle.std.specs.Prelude.{◌≡◌, ℕ, List, [], ◌∷◌, ◌++◌, Option, Some}
use Rattle.std.specs.List.{AllByRecursion}
use Rattle.worksheet.specs.declared.op.Op.{Op}
use Rattle.worksheet.specs.declared.field.Answer.{Answer}
use Rattle.worksheet.specs.declared.field.Field.{Field}
use Rattle.worksheet.specs.Contents.{Contents}
use Rattle.session_engine.specs.World.{World, sheet_in}
use Rattle.host_laws.specs.Turns.{AnsweredIn, Has, HostStep, StepsOf}
use Rattle.child_edge.specs.Faithful.{At, Entry, at}
use Rattle.child_edge.specs.Moments.{events_of, outcomes_of}
use Rattle.driver.specs.Laws.{trace}
use Rattle.check_report.specs.declared.chosen.Chosen.{Chosen}
use Rattle.check_report.specs.declared.verdict.VerdictCounts.{VerdictCounts}
use Rattle.check_report.specs.Reports.{Case}
use Rattle.offline_programs.specs.declared.fault.RunFault.{RunFault}
use Rattle.sheet_check.specs.Accept.{accepted, accepted_of, to_accept}
use Rattle.sheet_check.specs.Check.{Passage, SheetBroke, SheetChecked, SheetLed}
use Rattle.sheet_check.specs.Evaluated.{OneByOne, Way}
use Rattle.sheet_check.specs.Fields.{FieldChecked, FieldsChecked, checked, passed}
use Rattle.sheet_check.specs.Kept.{answer_op}

-- Fields of this worksheet were evaluated on a copy of it, which are these cases: all of them; or the first, and the next one led on so far, or broke off. Then
-- each life that goes on was stopped, which left the sources as they were given back.
pub data RanOnCopy {C : Type 0} (o : OneByOne C) (sheet : Contents) (q : Passage C) : List Case → Type 0 where
  all_fields : {counts : VerdictCounts} → (c : SheetChecked o sheet q counts) → RanOnCopy o sheet q c.cases
  first_fields : {cases : List Case} → SheetLed o sheet q.sources q.left cases → RanOnCopy o sheet q cases
  broke_off : {cases : List Case} {why : RunFault} → SheetBroke o sheet q.sources q.left cases why → RanOnCopy o sheet q cases

-- the world of the host that was opened on the copy
abbrev pub world_at_first : {C : Type 0} {o : OneByOne C} {sheet : Contents} {q : Passage C} {cases : List Case} → RanOnCopy o sheet q cases → World
world_at_first (all_fields c) = c.start
world_at_first (first_fields c) = c.start
world_at_first (broke_off c) = c.start

-- where it was, its disk and the sources, when it was opened
abbrev pub place_at_first : {C : Type 0} {o : OneByOne C} {sheet : Contents} {q : Passage C} {cases : List Case} → RanOnCopy o sheet q cases → At C
place_at_first {q = q} (all_fields c) = at c.start q.sources c.copy
place_at_first {q = q} (first_fields c) = at c.start q.sources c.copy
place_at_first {q = q} (broke_off c) = at c.start q.sources c.copy

-- and when the last of these cases had been evaluated
abbrev pub place_at_last : {C : Type 0} {o : OneByOne C} {sheet : Contents} {q : Passage C} {cases : List Case} → RanOnCopy o sheet q cases → At C
place_at_last (all_fields c) = c.leads
place_at_last (first_fields c) = c.mid
place_at_last (broke_off c) = c.mid

-- the entries of the trace of a field's evaluation, where it was evaluated
abbrev pub field_trace : {C : Type 0} (o : OneByOne C) (field : Field) (s : At C) (cases : List Case) (t : At C) → FieldChecked o.way o.chosen field s cases t → List Entry
field_trace o field s cases t (passed none) = []
field_trace o field s cases t (checked came took verdict u chosen evaluated judged) = trace evaluated.driven.steps

-- those of fields, one after another
abbrev pub fields_trace : {C : Type 0} (o : OneByOne C) (fields : List Field) (s : At C) (cases : List Case) (t : At C) → FieldsChecked o.way o.chosen fields s cases t → List Entry
fields_trace o [] s cases t c = []
fields_trace o (field ∷ fields) s cases t c = field_trace o field s c.1 c.0 c.3 ++ fields_trace o fields c.0 c.2 t c.4

-- the entries of all evaluations of such a run
abbrev pub run_trace : {C : Type 0} {o : OneByOne C} {sheet : Contents} {q : Passage C} {cases : List Case} → RanOnCopy o sheet q cases → List Entry
run_trace {o = o} {sheet = sheet} {q = q} (all_fields c) = fields_trace o sheet.fields (at c.start q.sources c.copy) c.cases c.leads c.checked
run_trace {o = o} {q = q} {cases = cases} (first_fields c) = fields_trace o c.gone (at c.start q.sources c.copy) cases c.mid c.checked
run_trace {o = o} {q = q} {cases = cases} (broke_off c) = fields_trace o c.gone (at c.start q.sources c.copy) cases c.mid c.checked

-- In such a run this field was evaluated after those before it in the worksheet, which is this case, and before those after it. The entries up to then are the first
-- of the run's, and these were the host's steps up to then.
pub record EvaluatedOnCopy {C : Type 0} (o : OneByOne C) (sheet : Contents) (q : Passage C) (all : List Case) (run : RanOnCopy o sheet q all) (one : Case) : Type 0 where
  pub gone : List Field
  pub left : List Field
  pub others : List Field
  pub split : sheet.fields ≡ gone ++ (one.field ∷ (left ++ others))
  pub before : List Case
  pub after : List Case
  pub cases : all ≡ before ++ one ∷ after
  pub mid : At C
  pub earlier : FieldsChecked o.way o.chosen gone (place_at_first run) before mid
  pub there : At C
  pub evaluated : FieldChecked o.way o.chosen one.field mid (one ∷ []) there
  pub later : FieldsChecked o.way o.chosen left there after (place_at_last run)
  pub entries : List Entry
  pub are : entries ≡ fields_trace o gone (place_at_first run) before mid earlier ++ field_trace o one.field mid (one ∷ []) there evaluated
  pub following : List Entry
  pub first : run_trace run ≡ entries ++ following
  pub steps : List HostStep
  pub led : StepsOf (world_at_first run) (events_of entries) (outcomes_of entries) steps there.world

-- This op puts in an answer that came so, and that is what is accepted of the case: as the field of the copy showed it then, since one of the steps had closed it.
-- That field has the session and the input of the worksheet's field. So the answer is the output of a whole block that answered its line.
pub record AnsweredOnCopy {C : Type 0} (o : OneByOne C) (sheet : Contents) (q : Passage C) (all : List Case) (run : RanOnCopy o sheet q all) (put : Op) : Type 0 where
  pub one : Case
  pub on_copy : EvaluatedOnCopy o sheet q all run one
  pub answer : Answer
  pub puts : put ≡ answer_op one.field.id answer
  pub taken : accepted_of one ≡ put ∷ []
  pub shown : Field
  pub number : shown.id ≡ one.field.id
  pub session : shown.session ≡ one.field.session
  pub input : shown.input ≡ one.field.input
  pub has : Has (sheet_in on_copy.there.world) shown
  pub shows : shown.answer ≡ Some answer
  pub answered : AnsweredIn on_copy.steps shown

-- These ops are the first of what is accepted of the cases of one such run, and each of them is so.
pub record PutFromCopy {C : Type 0} (o : OneByOne C) (sheet : Contents) (q : Passage C) (all : List Case) (put : List Op) : Type 0 where
  pub run : RanOnCopy o sheet q all
  pub rest : List Op
  pub puts : accepted all ≡ put ++ rest
  pub whole : AllByRecursion (AnsweredOnCopy o sheet q all run) put

-- Whatever is accepted of the cases of a run on a copy is so. No disk but the copy's, which is in memory, is spoken of: so this holds over the system's files, too.
abbrev pub AcceptedAreWhole : {C : Type 0} → (Option ℕ → Way C) → Type 0
AcceptedAreWhole {C = C} within = (limit : Option ℕ) (chosen : Chosen) (sheet : Contents) (q : Passage C) (all : List Case) (run : RanOnCopy (to_accept (within limit) chosen) sheet q all)
    → AllByRecursion (AnsweredOnCopy (to_accept (within limit) chosen) sheet q all run) (accepted all)
