use Rattle.host_laws.proofs.OneThing.{each_event_has_an_outcome}
use Rattle.host_laws.proofs.each_event_has_an_outcome.Goals as goal

pub returns : goal.returns
returns c = each_event_has_an_outcome
