use Rattle.std.proofs.Common.{drop}
use Rattle.host_cli.proofs.NumbersRead.{NumbersSoFar}
use Rattle.host_cli.proofs.plans.read_numbers.Given as goal

abbrev pub invariant-loop-word : goal.invariant-loop-word
invariant-loop-word l = NumbersSoFar l.words (drop l.word-index l.words) l.ids.items
