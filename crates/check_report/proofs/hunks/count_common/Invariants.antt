use Rattle.std.proofs.Common.{◌≡◌, ◌+◌, drop, map}
use Rattle.std.specs.List.{common_prefix_len}
use Rattle.std.specs.Str.{bytes_eq}
use Rattle.check_report.proofs.hunks.count_common.Given as goal

abbrev pub invariant-loop-at : goal.invariant-loop-at
invariant-loop-at l = l.at + common_prefix_len bytes_eq (drop l.at (map (λ line. line.now) l.old)) (drop l.at (map (λ line. line.now) l.new)) ≡ common_prefix_len bytes_eq (map (λ line. line.now) l.old) (map (λ line. line.now) l.new)
