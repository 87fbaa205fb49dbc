use Rattle.evaluation.specs.Meant.{IsNext}
use Rattle.evaluation.proofs.asking.next_of.Given as goal

abbrev pub invariant-loop-at : goal.invariant-loop-at
invariant-loop-at l = IsNext l.plan l.sheet.contents.fields l.lasts l.ids l.from l.at
