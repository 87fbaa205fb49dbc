use Rattle.std.proofs.Common.{length, map}
use Rattle.worksheet.specs.Rewrite.{session_op}
use Rattle.recovery.proofs.Measures.{MeasuredSoFar}
use Rattle.recovery.proofs.measuring.left_after_sessions.Given as goal

abbrev pub invariant-loop-session : goal.invariant-loop-session
invariant-loop-session l = MeasuredSoFar (map session_op l.sheet.contents.sessions) (map session_op l.sessions) l.fn.left l.rest

abbrev pub decreases-loop-session : goal.decreases-loop-session
decreases-loop-session l = length l.sessions
