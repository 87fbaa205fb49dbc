use Rattle.std.proofs.Common.{inl, inr, refl}
use Rattle.program_endings.proofs.Began.{began_cut}
use Rattle.program_endings.proofs.live_program.with_end.Goals as goal

pub returns-in-Ok-clause-ended : goal.returns-in-Ok-clause-ended
returns-in-Ok-clause-ended g c = inl ((c.in-Ok.ensures.ok, c.in-Ok.ensures.still), refl)

pub returns-in-Err-clause-ended : goal.returns-in-Err-clause-ended
returns-in-Err-clause-ended g c = inr (c.in-Err.why, c.frame.new.writer, c.with_fault.ensures.answer, (c.in-Err.ensures.err.0, c.in-Err.ensures.err.1, c.in-Err.ensures.unwritten, began_cut g.T.Tells.voice _ _ _ _ c.in-Err.ensures.err.1 c.in-Err.ensures.cut), c.with_fault.ensures.last)
