use Rattle.std.proofs.Common.{subst, sym}
use Rattle.offline_programs.specs.Saying.{saying}
use Rattle.program_endings.specs.EvalProgram.{EndsEvaluated}
use Rattle.program_endings.specs.Records.{streams, writing}
use Rattle.program_endings.proofs.eval_program.end_evaluation.Goals as goal

pub returns-in-Ok : goal.returns-in-Ok
returns-in-Ok g c =
    subst (λ answer. EndsEvaluated g.T.Tells.voice (streams (writing g.W.Write.contents c.args.output.now c.end_framed.new.output) (saying g.E.Write.contents g.E.Says.tried c.args.errors.now c.end_framed.new.errors)) c.args.whole c.end_framed.result answer)
    (sym c.in-Ok.is) c.end_framed.ensures

pub returns-in-Err : goal.returns-in-Err
returns-in-Err g c =
    subst (λ answer. EndsEvaluated g.T.Tells.voice (streams (writing g.W.Write.contents c.args.output.now c.end_faulty.new.output) (saying g.E.Write.contents g.E.Says.tried c.args.errors.now c.end_faulty.new.errors)) c.args.whole c.end_faulty.result answer)
    (sym c.in-Err.is) (c.end_faulty.ensures.last, c.end_faulty.ensures.status, c.end_faulty.ensures.reported)
