use Rattle.host_laws.proofs.ApartSeen as seen
use Rattle.host_laws.proofs.sessions_see_their_own.Goals as goal

pub returns : goal.returns
returns c = seen.sessions_see_their_own c.streams_read_one_way.ensures
