-- What the driver's run of fields over a disk is as the contract of `eval` has it.
use Rattle.std.proofs.Common.{◌≡◌, ℕ, Bool, true, List, subst, Ok, Err}
use Rattle.std.specs.Prelude.{IfOk, Option, Result}
use Rattle.disk_model.specs.Disk.{DiskView, SameDisk}
use Rattle.driver.specs.Noted.{PrintedSoFar, noting_rules, printed_so_far}
use Rattle.driver.specs.Over.{Over, ProgramParts, program_parts, ran_over}
use Rattle.driver.specs.Place.{Rules, SourceRules}
use Rattle.driver.proofs.TrueFaults.{over_true}
use Rattle.evaluation.specs.Programs.{Finds}
use Rattle.evaluation.specs.declared.plan.Plan.{Plan}
use Rattle.field_agenda.specs.declared.by_fields.ByFields.{ByFields}
use Rattle.field_agenda.specs.FieldLines.{by_field_lines}
use Rattle.field_agenda.specs.Stages.{IsEnded}
use Rattle.field_agenda.specs.Standing.{first_fields}
use Rattle.field_agenda.proofs.Endings.{comes_to_an_end}
use Rattle.field_agenda.proofs.Faults.{own_faults}
use Rattle.offline_programs.specs.declared.fault.RunFault.{RunFault}
use Rattle.sheet_files.specs.Closing.{Closable}
use Rattle.tellings.specs.Voice.{Voice}
use Rattle.program_endings.specs.EvalProgram.{AnswersAfter, EvaluatesTo, EvaluationAnswer, eval_rules, eval_setting}
use Rattle.program_endings.specs.Records.{calling, given_disk, run_of, writing}

module _ {P C W : Type 0} (finds : P → Finds) (V : Voice) (contents : W → Option (List ℕ)) (held : Option (List ℕ) → DiskView → Type 0) (s : SourceRules C) (plan : Plan) (programs : P) where
  abbrev field_rules : Rules (ByFields P) C PrintedSoFar
  field_rules = eval_rules (eval_setting plan programs finds V held) s

  pub evaluates : {D : Type 0} (k : Closable D) (disk later : D) (c d : C) (old new : W) (whole : Bool) (begun done : ByFields P) (run : Result (Unit {0}) RunFault) (answer : EvaluationAnswer)
      → begun ≡ first_fields plan programs
      → Over field_rules (program_parts (k.view disk) c (printed_so_far (contents old) true) begun) (program_parts (k.view later) d (printed_so_far (contents new) whole) done) run
      → k.closed later → SameDisk (k.view disk) (k.view later) → AnswersAfter run done.stage answer
      → EvaluatesTo (eval_setting plan programs finds V held) (run_of (given_disk k disk) s (calling c d) (writing contents old new)) whole answer
  evaluates k disk later c d old new whole begun done run answer at over closed same answers = record {
    later = later;
    closed = closed;
    same = same;
    fields = done;
    run = run;
    over = over_all;
    true_of = over_true field_rules (own_faults finds) (program_parts (k.view disk) c (printed_so_far (contents old) true) (first_fields plan programs)) (program_parts (k.view later) d (printed_so_far (contents new) whole) done) run over_all;
    answers = answers;
  }
    where
      over_all : Over field_rules (program_parts (k.view disk) c (printed_so_far (contents old) true) (first_fields plan programs)) (program_parts (k.view later) d (printed_so_far (contents new) whole) done) run
      over_all =
          subst (λ (a : ByFields P). Over field_rules (program_parts (k.view disk) c (printed_so_far (contents old) true) a) (program_parts (k.view later) d (printed_so_far (contents new) whole) done) run) at over

  -- where the run wasn't broken off it came to its end
  pub is_ended : (first last : ProgramParts (ByFields P) C PrintedSoFar) (run : Result (Unit {0}) RunFault) → Over field_rules first last run → IfOk run (λ done. IsEnded last.agenda.stage)
  is_ended first last (Ok done) (ran_over reported o) = comes_to_an_end finds s (noting_rules (by_field_lines V) held) _ _ o.steps o.ran
  is_ended first last (Err why) o = tt
