use Rattle.std.proofs.Common.{arith}
use Rattle.std.proofs.lemmas.Grind.{common_steps}
use Rattle.recovery.proofs.Sizes.{size_rules}
use Rattle.recovery.proofs.writing.put_words.Goals as goal

pub returns-in_err-put_long-clause-room : goal.returns-in_err-put_long-clause-room
returns-in_err-put_long-clause-room c = grind (arith, common_steps, size_rules)

pub loop-word-preserved : goal.loop-word-preserved
loop-word-preserved c = grind (arith, common_steps, size_rules)

pub returns-clause-code : goal.returns-clause-code
returns-clause-code c = grind (arith, common_steps, size_rules)
