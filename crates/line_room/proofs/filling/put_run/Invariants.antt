use Rattle.std.proofs.Common.{◌≡◌, ◌≤◌, ◌-◌, length}
use Rattle.line_room.specs.inside.Puts.{Puts}
use Rattle.line_room.proofs.filling.put_run.Given as goal

abbrev pub invariant-loop-to : goal.invariant-loop-to
invariant-loop-to l =
    (l.at ≤ l.to) × (l.to ≤ length l.bytes) × (l.held ≤ length l.room) × (length l.room ≡ length l.initial.room)
    × Puts l.bytes l.at l.to l.initial.room l.used l.room l.held

abbrev pub decreases-loop-to : goal.decreases-loop-to
decreases-loop-to l = length l.bytes - l.to
