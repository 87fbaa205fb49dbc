use Rattle.sheet_text.proofs.LineCuts.{line_alone, line_cut}
use Rattle.sheet_text.proofs.inputs.next_line.Goals as goal

pub returns-in-None-clause-lines : goal.returns-in-None-clause-lines
returns-in-None-clause-lines c = line_alone c.args.input.now c.in-None.ensures.cases

pub returns-in-Some-clause-lines : goal.returns-in-Some-clause-lines
returns-in-Some-clause-lines c = (line_cut c.args.input.now c.in-Some.line.now c.in-Some.rest.now c.in-Some.ensures.cases).0
