-- What the functions about fields that wait side by side promise each other.
use Rattle.std.specs.Prelude.{◌≡◌, ◌<◌, ◌≤◌, ◌-◌, ◌&&◌, ℕ, Bool, true, false, not, is_some, List, length, slice_get}
use Rattle.worksheet.specs.declared.field.Field.{Field}
use Rattle.worksheet.specs.declared.field.Session.{Session}
use Rattle.session_engine.specs.World.{World}
use Rattle.child_edge.specs.Seats.{seats_of, waits}
use Rattle.evaluation.specs.declared.plan.Plan.{Plan}
use Rattle.evaluation.specs.declared.plan.Stand.{Stand}
use Rattle.evaluation.specs.Meant.{is_passed, stop_field}
use Rattle.evaluation.specs.Beside.{is_waiting_one}

-- the first field that was neither asked nor passed over isn't passed over here, and a strict evaluation doesn't stop before it
abbrev pub is_due : Plan → List Field → List ℕ → Stand → Bool
is_due plan fields meant stand = not (is_some (stop_field plan fields stand)) && not (is_passed plan fields stand.lasts meant stand.taken)

abbrev pub one_if : Bool → ℕ
one_if true = 1
one_if false = 0

-- of so many sessions this is left beside those in which an item waits, but for these, which are to be looked at
pub record SeatsLeft (most : ℕ) (w : World) (rest : List Session) (left : ℕ) : Type 0 where
  pub fits : length (seats_of w rest) ≤ length (waits w)
  pub is : left ≡ most - (length (waits w) - length (seats_of w rest))

-- none of the fields from one place up to another waits
pub record NoneBetween (w : World) (meant : List ℕ) (low high : ℕ) : Type 0 where
  pub each : (k : ℕ) → low ≤ k → k < high → is_waiting_one w (slice_get meant k) ≡ false
