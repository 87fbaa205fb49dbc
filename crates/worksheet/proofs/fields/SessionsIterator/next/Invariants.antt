use Rattle.std.proofs.Common.{◌≡◌, length}
use Rattle.worksheet.specs.inside.Entries.{shown}
use Rattle.worksheet.proofs.fields.SessionsIterator.next.Given as goal

-- what was taken has no session
abbrev pub invariant-loop-session : goal.invariant-loop-session
invariant-loop-session l = shown l.self-inside.rest ≡ shown l.initial.self-inside.rest

abbrev pub decreases-loop-session : goal.decreases-loop-session
decreases-loop-session l = length l.self-inside.rest
