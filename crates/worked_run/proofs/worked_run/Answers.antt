use Rattle.worked_run.proofs.Steps.{worked}
use Rattle.worked_run.proofs.worked_run.Goals as goal

pub returns : goal.returns
returns c = worked
