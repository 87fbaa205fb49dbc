-- An opening that gives the payloads of a journal one after another (docs/trust/FORMAT.md, "Opening").
use Rattle.std.specs.Prelude.{◌≡◌, ℕ, List, ◌++◌}
use Rattle.disk_model.specs.Disk.{DiskView}
use Rattle.journal.specs.Area.{end_of}
use Rattle.journal.specs.Kept.{Keeps}

-- an opening as contracts see it: its disk, the offset of the gate of the payload that it gives
-- next, and that of the closed gate after all payloads
pub record OpeningView : Type 0 where
  pub disk : DiskView
  pub gate : ℕ
  pub end : ℕ

-- The opening has given these payloads, and these are left. The disk stands for the given ones and,
-- after them, the left ones, all of them durable. The next gate is the one after the given ones.
pub record HasGiven (opening : OpeningView) (given left : List (List ℕ)) : Type 0 where
  pub keeps : Keeps opening.disk.history opening.end (given ++ left)
  pub gate_is : opening.gate ≡ end_of given
