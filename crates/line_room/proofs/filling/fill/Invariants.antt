use Rattle.std.proofs.Common.{◌≡◌, ◌≤◌, ◌<◌, ◌-◌, length}
use Rattle.line_room.specs.inside.Puts.{Puts}
use Rattle.line_room.proofs.filling.fill.Given as goal

abbrev pub invariant-loop-place : goal.invariant-loop-place
invariant-loop-place l =
    (l.at < l.place.at) × (l.place.at ≤ length l.bytes) × (l.place.used ≤ length l.room) × (length l.room ≡ length l.fn.room)
    × Puts l.bytes l.at l.place.at l.fn.room l.used l.room l.place.used

abbrev pub decreases-loop-place : goal.decreases-loop-place
decreases-loop-place l = length l.bytes - l.place.at
