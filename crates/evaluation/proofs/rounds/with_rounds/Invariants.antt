use Rattle.std.proofs.Common.{◌≡◌, [], take}
use Rattle.evaluation.specs.Rounds.{with_rounds}
use Rattle.evaluation.proofs.rounds.with_rounds.Given as goal

abbrev pub invariant-loop-id : goal.invariant-loop-id
invariant-loop-id l = l.all.items ≡ with_rounds l.sheet.contents.fields [] (take l.id-index l.ids)
