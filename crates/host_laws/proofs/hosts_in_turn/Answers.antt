use Rattle.host_laws.proofs.Going.{hosts_in_turn}
use Rattle.host_laws.proofs.hosts_in_turn.Goals as goal

pub returns : goal.returns
returns c = hosts_in_turn c.one_sheet.ensures
