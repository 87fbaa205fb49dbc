-- How the program `eval` ends: what it evaluates and writes, what it says on which stream, and the exit status.
use Rattle.std.specs.Io.KnownBytes.{Appends}
use Rattle.std.specs.Prelude.{◌≡◌, ◌==◌, ◌&&◌, ℕ, Bool, true, false, List, Option, Some, None, Result, Ok, Err, IfErr, if◌then◌else◌}
use Rattle.disk_model.specs.Disk.{DiskView, SameDisk}
use Rattle.offline_programs.specs.Saying.{IsSaid, Saying}
use Rattle.offline_programs.specs.declared.fault.RunFault.{RunFault}
use Rattle.tellings.specs.Voice.{Voice}
use Rattle.tellings.specs.declared.note.Counts.{Counts}
use Rattle.tellings.specs.declared.note.Boundary.{Boundary}
use Rattle.tellings.specs.declared.note.Boundary.TheVariants as boundary
use Rattle.tellings.specs.declared.note.Overs.{Overs}
use Rattle.driver.specs.Noted.{PrintedSoFar, noting_rules, printed_so_far}
use Rattle.driver.specs.Over.{Over, program_parts}
use Rattle.driver.specs.Place.{Rules, SourceRules, rules}
use Rattle.driver.specs.TrueFaults.{IsTrueOf}
use Rattle.evaluation.specs.Faults.{eval_fault_text}
use Rattle.evaluation.specs.Programs.{Finds}
use Rattle.evaluation.specs.declared.plan.EvalEnd.{EvalEnd}
use Rattle.evaluation.specs.declared.fault.EvalFault.{EvalFault}
use Rattle.evaluation.specs.declared.fault.EvalFault.TheVariants as evals
use Rattle.evaluation.specs.declared.plan.Plan.{Plan}
use Rattle.field_agenda.specs.FieldLines.{by_field_lines}
use Rattle.field_agenda.specs.FieldsRules.{fields_rules}
use Rattle.field_agenda.specs.Standing.{first_fields}
use Rattle.field_agenda.specs.declared.by_fields.ByFields.{ByFields}
use Rattle.field_agenda.specs.declared.stage.Stage.{Stage}
use Rattle.field_agenda.specs.declared.stage.Stage.TheVariants as stage
use Rattle.program_endings.specs.LiveProgram.{Began, FrameWithheld, EndsFaulted, Framed, LastReported}
use Rattle.program_endings.specs.StrictProgram.{stopped_after_text}
use Rattle.program_endings.specs.Records.{ProgramPassage, ProgramRun, Streams, run_on, run_since, run_until, streams, text_after, text_before, view_given}
use Rattle.program_endings.specs.declared.ending.Ending.{Ending}
use Rattle.program_endings.specs.declared.eval_program.Missing.{Missing}
use Rattle.program_endings.specs.declared.eval_program.Missing.TheVariants as missing

-- what the program answers: after which field the evaluation stopped, if it did, and what it came to; or its fault
abbrev pub EvaluationAnswer : Type 0
EvaluationAnswer = Result EvalEnd EvalFault

-- no field's time was over, and none was passed over
abbrev pub are_none_over : Option Overs → Bool
are_none_over None = true
are_none_over (Some overs) = (overs.over == 0) && (overs.passed == 0)

-- 0 where each field of the worksheet but prose shows an answer, and none was over or passed over
abbrev pub counts_status : Counts → ℕ
counts_status counts = if (counts.unanswered == 0) && are_none_over counts.overs then 0 else 1

abbrev pub status_of_end : Option ℕ → Counts → ℕ
status_of_end None counts = counts_status counts
status_of_end (Some id) counts = 3

abbrev pub evaluation_status : EvaluationAnswer → ℕ
evaluation_status (Ok end) = status_of_end end.stopped_after end.counts
evaluation_status (Err why) = 1

-- After which field it stopped is a line that is said on the stream of errors; where it didn't, nothing is.
abbrev pub TellsStopAfter : {E : Type 0} → Saying E → Bool → Option ℕ → Type 0
TellsStopAfter errors reported None = errors.new ≡ errors.old
TellsStopAfter errors reported (Some id) = IsSaid errors (stopped_after_text id) reported

-- so is a fault
abbrev pub TellsEval : {E : Type 0} → Saying E → Bool → EvaluationAnswer → Type 0
TellsEval errors reported (Ok end) = TellsStopAfter errors reported end.stopped_after
TellsEval errors reported (Err why) = IsSaid errors (eval_fault_text why) reported

-- How fields are evaluated: by which plan, with which programs and how a look for one may be answered, the voice of what is printed, and what the output
-- held while a disk was in which state.
pub record EvalSetting (P : Type 0) : Type 1 where
  pub plan : Plan
  pub programs : P
  pub finds : P → Finds
  pub voice : Voice
  pub held : Option (List ℕ) → DiskView → Type 0

abbrev pub eval_setting : {P : Type 0} → Plan → P → (P → Finds) → Voice → (Option (List ℕ) → DiskView → Type 0) → EvalSetting P
eval_setting plan programs finds V held = record { plan = plan; programs = programs; finds = finds; voice = V; held = held }

-- A driver of fields: what is printed of a line is printed of that of a field. Of its sink is known what was printed, in which state of the disk, and
-- whether all of the last text went out.
abbrev pub eval_rules : {C P : Type 0} → EvalSetting P → SourceRules C → Rules (ByFields P) C PrintedSoFar
eval_rules o sources = rules (fields_rules o.finds) sources (noting_rules (by_field_lines o.voice) o.held)

-- What the program answers after a run, by how far it came: what the evaluation came to, or what isn't there; or the fault of the run.
pub data AnswersAfter : Result (Unit {0}) RunFault → Stage → EvaluationAnswer → Type 0 where
  came_to_its_end : (done : Unit {0}) (end : EvalEnd) → AnswersAfter (Ok done) (stage.Counted end) (Ok end)
  without_field : (done : Unit {0}) (id : ℕ) → AnswersAfter (Ok done) (stage.NoField id) (Err (evals.NoField id))
  without_program : (done : Unit {0}) (name : List ℕ) → AnswersAfter (Ok done) (stage.NoProgram name) (Err (evals.NoProgram name))
  broke_off : (why : RunFault) (how : Stage) → AnswersAfter (Err why) how (Err (evals.Run why))

-- What `eval` does on a disk, which is closed then, between what stands first and last: the driver ran over it, by the plan, from before it looked for
-- the fields and the programs on. A fault is true of the disk: that it failed is reported only where it did.
pub record EvaluatesTo {D C O P : Type 0} (o : EvalSetting P) (r : ProgramRun D C O) (whole : Bool) (answer : EvaluationAnswer) : Type 0 where
  pub later : D
  pub closed : r.given.how.closed later
  pub same : SameDisk (view_given r.given) (r.given.how.view later)
  -- where the agenda stands at the end, and how the run was answered
  pub fields : ByFields P
  pub run : Result (Unit {0}) RunFault
  pub over : Over (eval_rules o r.rules) (program_parts (view_given r.given) r.called.old (printed_so_far (text_before r.wrote) true) (first_fields o.plan o.programs))
      (program_parts (r.given.how.view later) r.called.new (printed_so_far (text_after r.wrote) whole) fields) run
  pub true_of : IfErr run (λ why. IsTrueOf why (view_given r.given) (r.given.how.view later))
  pub answers : AnswersAfter run fields.stage answer

-- what stands last is written whole where both streams took what they had to, and it is nothing where the voice takes no memory
abbrev pub FramedLast : {O : Type 0} → Voice → (O → Option (List ℕ)) → O → O → Bool → Boundary → Type 0
FramedLast V contents old new reported last = (V.takes_memory ≡ false → new ≡ old) × (reported ≡ true → Appends (contents old) (contents new) (V.frame last)) × Began V (contents old) (contents new) (V.frame last)

-- what isn't there, as a fault and as what stands last
abbrev pub missing_fault : Missing → EvalFault
missing_fault (missing.Field id) = evals.NoField id
missing_fault (missing.Program name) = evals.NoProgram name

abbrev pub missing_last : Missing → Boundary
missing_last (missing.Field id) = boundary.NoField id
missing_last (missing.Program name) = boundary.NoProgram name

-- That the evaluation came to its end is printed last; or it couldn't be, and that is the fault, which is printed last.
pub data LastOfEnd {O E : Type 0} (V : Voice) (s : Streams O E) (ending : Ending) (end : EvalEnd) : Type 0 where
  ended : Framed V s.output.contents boundary.End s.output.old s.output.new → ending.status ≡ evaluation_status (Ok end) → TellsEval s.errors ending.reported (Ok end)
      → LastOfEnd V s ending end
  unended : (why : RunFault) (mid : O) → FrameWithheld V s.output.contents boundary.End s.output.old mid why → LastReported {T = Bool} V s.output.contents mid s.output.new ending.reported (Err why)
      → ending.status ≡ 1 → TellsEval s.errors ending.reported (Err (evals.Run why)) → LastOfEnd V s ending end

-- A fault is printed last, where the voice has it and the run didn't print it, and is a line on the stream of errors.
abbrev pub LastOfFault : {O E : Type 0} → Voice → Streams O E → Bool → Ending → EvalFault → Type 0
LastOfFault V s whole ending (evals.NoField id) = FramedLast V s.output.contents s.output.old s.output.new ending.reported (boundary.NoField id)
LastOfFault V s whole ending (evals.NoProgram name) = FramedLast V s.output.contents s.output.old s.output.new ending.reported (boundary.NoProgram name)
LastOfFault V s whole ending (evals.Run why) = (said : Bool) × (ending.reported ≡ true → said ≡ true) × EndsFaulted V s.output whole said why

-- What stands last after an evaluation that was answered so, of whose last text this is known, and how the program ends then.
abbrev pub EndsEvaluated : {O E : Type 0} → Voice → Streams O E → Bool → Ending → EvaluationAnswer → Type 0
EndsEvaluated V s whole ending (Ok end) = LastOfEnd V s ending end
EndsEvaluated V s whole ending (Err why) = LastOfFault V s whole ending why × (ending.status ≡ 1) × TellsEval s.errors ending.reported (Err why)

-- What `eval` comes to on a disk, and how it ends, once it has greeted: it evaluated, and printed what stands last.
abbrev pub EvaluationBegun : {D C O P E : Type 0} → EvalSetting P → ProgramRun D C O → Saying E → Ending → Type 0
EvaluationBegun {O = O} o r e ending = (last : O) × (whole : Bool) × (answer : EvaluationAnswer) × EvaluatesTo o (run_until r last) whole answer
    × EndsEvaluated o.voice (streams (run_since r last).wrote e) whole ending answer

-- The same from its greeting on.
pub data EvaluationEnded {D C O P E : Type 0} (o : EvalSetting P) (r : ProgramRun D C O) (e : Saying E) (ending : Ending) : Type 0 where
  greeted : (first : O) → Framed o.voice r.wrote.contents boundary.Hello r.wrote.old first → EvaluationBegun o (run_since r first) e ending → EvaluationEnded o r e ending
  -- it couldn't greet, and nothing was done but to close the disk
  ungreeted : (why : RunFault) (mid : O) → FrameWithheld o.voice r.wrote.contents boundary.Hello r.wrote.old mid why → LastReported {T = Bool} o.voice r.wrote.contents mid r.wrote.new ending.reported (Err why)
      → ending.status ≡ 1 → TellsEval e ending.reported (Err (evals.Run why)) → r.called.new ≡ r.called.old → r.given.how.closed r.given.disk → EvaluationEnded o r e ending

-- the same of the disk that was opened
abbrev pub EvaluationOpened : {D C O P E : Type 0} → EvalSetting P → ProgramPassage D C O → Saying E → Ending → D → Type 0
EvaluationOpened o p e ending disk = EvaluationEnded o (run_on p disk) e ending
