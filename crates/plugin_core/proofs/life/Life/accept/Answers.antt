use Rattle.std.proofs.lemmas.Result.{IfOk-weaker}
use Rattle.plugin_core.proofs.Pieces.{takes_item}
use Rattle.plugin_core.proofs.life.Life.accept.Goals as goal

pub returns-clause-ok : goal.returns-clause-ok
returns-clause-ok c = λ past blocks s. IfOk-weaker c.join.result _ _ (λ sent j. takes_item c.args.self.now c.join.new.self past blocks c.args.item s sent j) c.join.ensures.ok
