use Rattle.std.proofs.Common.{arith}
use Rattle.std.proofs.lemmas.Grind.{common_steps}
use Rattle.recovery.proofs.PlainRuns.{node_rules}
use Rattle.recovery.proofs.writing.+put_node.Goals as goal

pub returns-in_err-put_text-in-Text-clause-room : goal.returns-in_err-put_text-in-Text-clause-room
returns-in_err-put_text-in-Text-clause-room t c = grind (arith, common_steps, node_rules)

pub returns-in_err-put_node-in-Block-clause-room : goal.returns-in_err-put_node-in-Block-clause-room
returns-in_err-put_node-in-Block-clause-room t c = grind (arith, common_steps, node_rules)

pub loop-item-preserved : goal.loop-item-preserved
loop-item-preserved t c = grind (arith, common_steps, node_rules)

pub returns-clause-code : goal.returns-clause-code
returns-clause-code t c = grind (arith, common_steps, node_rules)
