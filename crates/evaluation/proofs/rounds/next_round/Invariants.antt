use Rattle.std.proofs.Common.{◌≡◌, take}
use Rattle.evaluation.specs.Rounds.{count_of, placed_ids}
use Rattle.evaluation.proofs.rounds.next_round.Given as goal

abbrev pub invariant-loop-at : goal.invariant-loop-at
invariant-loop-at l = count_of l.sheet.contents.fields l.session (take l.at (placed_ids l.all)) ≡ count_of l.sheet.contents.fields l.session (placed_ids l.all)
