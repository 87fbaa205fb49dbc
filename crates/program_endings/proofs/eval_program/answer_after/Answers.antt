use Rattle.std.proofs.Common.{Err, subst, sym}
use Rattle.evaluation.specs.declared.fault.EvalFault.TheVariants as evals
use Rattle.program_endings.specs.EvalProgram.{AnswersAfter, broke_off}
use Rattle.program_endings.proofs.eval_program.answer_after.Goals as goal

pub returns-in-Err : goal.returns-in-Err
returns-in-Err c = subst (λ run. AnswersAfter run c.args.stage (Err (evals.Run c.in-Err.why))) (sym c.in-Err.is) (broke_off c.in-Err.why c.args.stage)
