use Rattle.worksheet.proofs.check.check_op.Goals as goal

pub returns-in-Answer : goal.returns-in-Answer
returns-in-Answer c = rw (c.in-Answer.is, ← c.as_slice-in-Answer.ensures) (c.check_answer.ensures c.in-Answer.output)
