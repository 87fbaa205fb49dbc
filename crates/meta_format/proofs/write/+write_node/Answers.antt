use Rattle.std.proofs.Common.{arith}
use Rattle.std.proofs.lemmas.Grind.{common_steps}
use Rattle.meta_format.proofs.Written.{write_rules}
use Rattle.meta_format.proofs.write.+write_node.Goals as goal

pub returns-in_err-push-clause-kept : goal.returns-in_err-push-clause-kept
returns-in_err-push-clause-kept t c = grind (arith, common_steps, write_rules)

pub loop-item-preserved : goal.loop-item-preserved
loop-item-preserved t c = grind (arith, common_steps, write_rules)

pub returns-clause-ok : goal.returns-clause-ok
returns-clause-ok t c = grind (arith, common_steps, write_rules)
