-- Reasons by number, as a disk keeps them. (docs/trust/FORMAT.md, "Payloads".)
use Rattle.std.specs.Prelude.{ℕ}
use Rattle.block_tree.specs.declared.reason.Reason.{Reason}
use Rattle.block_tree.specs.declared.reason.Reason.TheVariants as reason

-- the number of a reason
abbrev pub reason_number : Reason → ℕ
reason_number reason.StartRefused = 1
reason_number reason.Ended = 2
reason_number reason.ReadFault = 3
reason_number reason.SendFault = 4
reason_number reason.Stalled = 5
reason_number reason.BadTag = 6
reason_number reason.TooDeep = 7
reason_number reason.TooLong = 8
reason_number reason.Stopped = 9
