use Rattle.arrivals.specs.Watching.{asked}
use Rattle.arrivals.proofs.Coming.{first-comes}
use Rattle.arrivals.proofs.scripted.ScriptedSourcesSources.watch.Goals as goal

pub returns-in-Some-clause-may_come : goal.returns-in-Some-clause-may_come
returns-in-Some-clause-may_come c =
    first-comes (asked c.args.input c.args.patience) c.as_slice.result.now c.self.inside.turns.items c.in-Some.at c.remove.result c.in-Some.ensures.at_it c.as_slice.ensures.value c.remove.ensures.value
