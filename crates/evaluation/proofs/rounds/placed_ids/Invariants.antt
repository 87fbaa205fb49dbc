use Rattle.std.proofs.Common.{◌≡◌, take}
use Rattle.evaluation.specs.Rounds.{placed_ids}
use Rattle.evaluation.proofs.rounds.placed_ids.Given as goal

abbrev pub invariant-loop-field : goal.invariant-loop-field
invariant-loop-field l = l.ids.items ≡ placed_ids (take l.field-index l.all)
