use Rattle.program_endings.proofs.eval_program.end_broken.Goals as goal

pub returns-clause-last : goal.returns-clause-last
returns-clause-last g c = (c.tell_run_fault-said.result, c.end_faulted.ensures.last, c.tell_run_fault-said.ensures)
