use Rattle.std.proofs.Common.{length, map}
use Rattle.sheet_export.specs.Script.{lines_text, session_line}
use Rattle.sheet_export.proofs.Written.{Written}
use Rattle.sheet_export.proofs.script.write_sessions.Given as goal

abbrev pub invariant-loop-session : goal.invariant-loop-session
invariant-loop-session g l =
    Written (g.W.Write.contents l.initial.out) (g.W.Write.contents l.out) (lines_text (map session_line l.sessions)) (lines_text (map session_line l.sheet.contents.sessions))

abbrev pub decreases-loop-session : goal.decreases-loop-session
decreases-loop-session g l = length l.sessions
