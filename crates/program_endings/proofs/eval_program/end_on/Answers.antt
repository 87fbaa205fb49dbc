use Rattle.program_endings.proofs.eval_program.end_on.Goals as goal

pub returns : goal.returns
returns g c =
    let run = c.evaluate_on-whole.result in
    (run.output, run.whole, run.answer, c.evaluate_on-whole.ensures, c.end_evaluation.ensures)
