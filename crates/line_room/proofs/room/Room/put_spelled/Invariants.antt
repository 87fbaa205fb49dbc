use Rattle.std.proofs.Common.{◌≤◌, ◌-◌, ℕ, List, length}
use Rattle.std.specs.Io.KnownBytes.{Appends, append_known}
use Rattle.sheet_text.specs.inside.Spelled.{PrintsTo}
use Rattle.line_room.proofs.room.Room.put_spelled.Given as goal

abbrev pub invariant-loop-at : goal.invariant-loop-at
invariant-loop-at g l =
    (text : List ℕ) × (l.at ≤ length l.bytes) × Appends (append_known (g.W.Write.contents l.initial.out) l.initial.self) (append_known (g.W.Write.contents l.out) l.self) text
    × PrintsTo l.bytes 0 l.at text

abbrev pub decreases-loop-at : goal.decreases-loop-at
decreases-loop-at g l = length l.bytes - l.at
