-- Reasons as numbers, as the check wants it for a value that contracts see.
use Rattle.std.specs.Prelude.{◌≡◌, ◌==◌, ℕ, if◌then◌else◌, refl}
use Rattle.std.specs.Coded.{Coded, code_by, coded_ℕ}
use Rattle.block_tree.specs.declared.reason.Reason.{Reason}
use Rattle.block_tree.specs.declared.reason.Reason.TheVariants as reason
use Rattle.block_tree.specs.Reasons.{reason_number}

-- the reason with a number, and the last one for any other number
abbrev pub reason_numbered : ℕ → Reason
reason_numbered n =
    if n == 1 then reason.StartRefused else if n == 2 then reason.Ended else if n == 3 then reason.ReadFault
    else if n == 4 then reason.SendFault else if n == 5 then reason.Stalled else if n == 6 then reason.BadTag
    else if n == 7 then reason.TooDeep else if n == 8 then reason.TooLong else reason.Stopped

pub reason_back : (r : Reason) → reason_numbered (reason_number r) ≡ r
reason_back reason.StartRefused = refl
reason_back reason.Ended = refl
reason_back reason.ReadFault = refl
reason_back reason.SendFault = refl
reason_back reason.Stalled = refl
reason_back reason.BadTag = refl
reason_back reason.TooDeep = refl
reason_back reason.TooLong = refl
reason_back reason.Stopped = refl

abbrev pub coded_reason : Coded Reason
coded_reason = code_by ℕ coded_ℕ reason_number reason_numbered reason_back
