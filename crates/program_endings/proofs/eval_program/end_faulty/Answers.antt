use Rattle.std.proofs.Common.{Err, subst, sym}
use Rattle.offline_programs.specs.Saying.{saying}
use Rattle.program_endings.specs.EvalProgram.{TellsEval}
use Rattle.program_endings.proofs.eval_program.end_faulty.Goals as goal

pub returns-in-NoProgram-clause-reported : goal.returns-in-NoProgram-clause-reported
returns-in-NoProgram-clause-reported g c =
    subst (λ why. TellsEval (saying g.E.Write.contents g.E.Says.tried c.args.errors.now c.end_without-in-NoProgram.new.errors) c.end_without-in-NoProgram.result.reported (Err why)) (sym c.in-NoProgram.is) c.end_without-in-NoProgram.ensures.reported
