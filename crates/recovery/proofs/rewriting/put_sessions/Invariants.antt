use Rattle.std.proofs.Common.{length, map}
use Rattle.worksheet.specs.Rewrite.{session_op}
use Rattle.recovery.proofs.Gathering.{GatheredSoFar}
use Rattle.recovery.proofs.rewriting.put_sessions.Given as goal

abbrev pub invariant-loop-session : goal.invariant-loop-session
invariant-loop-session l = GatheredSoFar (map session_op l.sheet.contents.sessions) (map session_op l.sessions) l.fn.records.items l.records.items

abbrev pub decreases-loop-session : goal.decreases-loop-session
decreases-loop-session l = length l.sessions
