use Rattle.host_laws.proofs.InFlight.{nothing_is_shown_in_flight}
use Rattle.host_laws.proofs.nothing_is_shown_in_flight.Goals as goal

pub returns : goal.returns
returns c = nothing_is_shown_in_flight
