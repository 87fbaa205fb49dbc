use Rattle.std.proofs.Common.{arith}
use Rattle.std.proofs.lemmas.Grind.{common_steps}
use Rattle.meta_format.proofs.Written.{keep_rules}
use Rattle.meta_format.proofs.write.write_text.Goals as goal

pub loop-c-init : goal.loop-c-init
loop-c-init c = grind (arith, common_steps, keep_rules)

pub loop-c-preserved : goal.loop-c-preserved
loop-c-preserved c = grind (arith, common_steps, keep_rules)

pub returns-clause-ok : goal.returns-clause-ok
returns-clause-ok c = grind (arith, common_steps, keep_rules)
