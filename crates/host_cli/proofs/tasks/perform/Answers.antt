use Rattle.host_cli.proofs.tasks.perform.Goals as goal

pub returns : goal.returns
returns g c = (c.perform_unsent-outside.result.outside, c.perform_unsent-outside.result.ending, c.perform_unsent-outside.ensures, c.flush_output.ensures)
