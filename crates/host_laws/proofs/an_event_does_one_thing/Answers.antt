use Rattle.host_laws.proofs.OneThing.{an_event_does_one_thing}
use Rattle.host_laws.proofs.an_event_does_one_thing.Goals as goal

pub returns : goal.returns
returns c = an_event_does_one_thing c.streams_read_one_way.ensures
