use Rattle.program_endings.specs.EvalProgram.{ended, unended}
use Rattle.program_endings.proofs.Began.{began_cut}
use Rattle.program_endings.proofs.eval_program.end_framed.Goals as goal

pub returns-in-Ok : goal.returns-in-Ok
returns-in-Ok g c = ended (c.in-Ok.ensures.ok, c.in-Ok.ensures.still) c.end_evaluated.ensures.status c.end_evaluated.ensures.reported

pub returns-in-Err : goal.returns-in-Err
returns-in-Err g c = unended c.in-Err.why c.frame.new.writer (c.in-Err.ensures.err.0, c.in-Err.ensures.err.1, c.in-Err.ensures.unwritten, began_cut g.T.Tells.voice _ _ _ _ c.in-Err.ensures.err.1 c.in-Err.ensures.cut) c.end_reported.ensures.last c.end_reported.ensures.status c.end_reported.ensures.reported
