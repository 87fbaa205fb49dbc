use Rattle.std.proofs.Common.{◌≡◌, length}
use Rattle.check_report.specs.IdLists.{ids_named, with_others}
use Rattle.check_report.proofs.ids.read_ids.Given as goal

abbrev pub invariant-loop-ids : goal.invariant-loop-ids
invariant-loop-ids l = with_others l.all.items (ids_named l.rest) ≡ ids_named l.text

abbrev pub decreases-loop-ids : goal.decreases-loop-ids
decreases-loop-ids l = length l.rest
