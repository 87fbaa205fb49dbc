use Rattle.host_laws.proofs.Calling.{calls_leave_prefixes}
use Rattle.host_laws.proofs.calls_leave_prefixes.Goals as goal

pub returns : goal.returns
returns c = calls_leave_prefixes
