use Rattle.std.proofs.Common.{arith}
use Rattle.std.proofs.lemmas.Grind.{common_steps}
use Rattle.recovery.proofs.PlainRuns.{text_rules}
use Rattle.recovery.proofs.writing.put_text.Goals as goal

pub returns-in_err-extend_from_slice-clause-room : goal.returns-in_err-extend_from_slice-clause-room
returns-in_err-extend_from_slice-clause-room c = grind (arith, common_steps, text_rules)

pub returns-in_err-put_byte-clause-room : goal.returns-in_err-put_byte-clause-room
returns-in_err-put_byte-clause-room c = grind (arith, common_steps, text_rules)

pub loop-rest-preserved-then-following-lt1 : goal.loop-rest-preserved-then-following-lt1
loop-rest-preserved-then-following-lt1 c = grind (arith, common_steps, text_rules)

pub loop-rest-preserved : goal.loop-rest-preserved
loop-rest-preserved c = grind (arith, common_steps, text_rules)

pub returns-clause-code : goal.returns-clause-code
returns-clause-code c = grind (arith, common_steps, text_rules)
