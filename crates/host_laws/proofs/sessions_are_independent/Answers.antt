use Rattle.host_laws.proofs.ApartRuns as runs
use Rattle.host_laws.proofs.sessions_are_independent.Goals as goal

pub returns : goal.returns
returns c = runs.sessions_are_independent c.streams_read_one_way.ensures
