use Rattle.std.proofs.Common.{Err, Ok, subst, sym}
use Rattle.evaluation.specs.declared.fault.EvalFault.TheVariants as evals
use Rattle.field_agenda.specs.declared.stage.Stage.{Stage}
use Rattle.program_endings.specs.EvalProgram.{AnswersAfter, came_to_its_end, without_field, without_program}
use Rattle.program_endings.proofs.eval_program.answer_at.Goals as goal

pub returns-in-Counted : goal.returns-in-Counted
returns-in-Counted c = λ done. subst (λ (how : Stage). AnswersAfter (Ok done) how (Ok c.in-Counted.end)) (sym c.in-Counted.is) (came_to_its_end done c.in-Counted.end)

pub returns-in-NoField : goal.returns-in-NoField
returns-in-NoField c = λ done. subst (λ (how : Stage). AnswersAfter (Ok done) how (Err (evals.NoField c.in-NoField.id))) (sym c.in-NoField.is) (without_field done c.in-NoField.id)

pub returns-in-NoProgram : goal.returns-in-NoProgram
returns-in-NoProgram c = λ done. subst (λ (how : Stage). AnswersAfter (Ok done) how (Err (evals.NoProgram c.in-NoProgram.name))) (sym c.in-NoProgram.is) (without_program done c.in-NoProgram.name)
