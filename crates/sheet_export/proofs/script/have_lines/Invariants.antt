use Rattle.std.proofs.Common.{◌≡◌, length}
use Rattle.sheet_export.specs.Script.{have_lines}
use Rattle.sheet_export.proofs.script.have_lines.Given as goal

abbrev pub invariant-loop-session : goal.invariant-loop-session
invariant-loop-session l = have_lines l.sessions ≡ have_lines l.sheet.contents.sessions

abbrev pub decreases-loop-session : goal.decreases-loop-session
decreases-loop-session l = length l.sessions
