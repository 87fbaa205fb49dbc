use Rattle.host_laws.proofs.Stepping.{steps_leave_prefixes}
use Rattle.host_laws.proofs.steps_leave_prefixes.Goals as goal

pub returns : goal.returns
returns c = steps_leave_prefixes
