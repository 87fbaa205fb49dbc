use Rattle.program_endings.specs.LiveProgram.{greeted, ungreeted}
use Rattle.program_endings.proofs.Began.{began_cut}
use Rattle.program_endings.proofs.live_program.live_framed.Goals as goal

pub returns-in-Ok : goal.returns-in-Ok
returns-in-Ok g c = greeted c.frame.new.writer (c.in-Ok.ensures.ok, c.in-Ok.ensures.still) c.live_read.ensures

pub returns-in-Err : goal.returns-in-Err
returns-in-Err g c =
    ungreeted (c.in-Err.why, c.frame.new.writer, c.with_fault.ensures.answer, (c.in-Err.ensures.err.0, c.in-Err.ensures.err.1, c.in-Err.ensures.unwritten, began_cut g.T.Tells.voice _ _ _ _ c.in-Err.ensures.err.1 c.in-Err.ensures.cut), c.with_fault.ensures.last) c.with_fault.ensures.sources c.close.ensures
